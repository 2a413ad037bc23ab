use Rattle.std.proofs.Common.{◌≡◌, take, subst}
use Rattle.xt_core.specs.Positions.{world_at}
use Rattle.xt_replay.specs.Shown.{ReplayState}
use Rattle.xt_replay.proofs.Inside.{served_are}
use Rattle.xt_replay.proofs.replay.Replay.served.Goals as goal

pub returns-clause-entries : goal.returns-clause-entries
returns-clause-entries c =
    let F : ReplayState → Type 0 = λ x. (world_at x.image x.run x.position).line.history ≡ take c.self.inside.pair.used x.run.history in
    subst F c.self.view_is (served_are c.self.inside c.self.invariant)
