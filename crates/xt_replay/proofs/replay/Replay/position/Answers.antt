use Rattle.std.proofs.Common.{◌≤◌, length, subst}
use Rattle.xt_core.specs.Positions.{schedule_in}
use Rattle.xt_replay.specs.Shown.{ReplayState}
use Rattle.xt_replay.proofs.Inside.{end_most}
use Rattle.xt_replay.proofs.replay.Replay.position.Goals as goal

pub returns-clause-bound : goal.returns-clause-bound
returns-clause-bound c =
    let F : ReplayState → Type 0 = λ x. length (schedule_in x.run) ≤ 8000000 in
    subst F c.self.view_is (end_most c.self.inside c.self.invariant)
