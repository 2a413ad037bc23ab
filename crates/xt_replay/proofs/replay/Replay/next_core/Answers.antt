use Rattle.std.proofs.Common.{◌≡◌, ◌<◌, length, ap, ◌∙◌, arith}
use Rattle.std.specs.Prelude.{slice_get}
use Rattle.xt_core.specs.Positions.{schedule_in}
use Rattle.xt_replay.specs.Shown.{ReplayState}
use Rattle.xt_replay.proofs.Inside.{core_found}
use Rattle.xt_replay.proofs.replay.Replay.next_core.Goals as goal

pub returns : goal.returns
returns c =
    let b = c.self.inside in
    let same : length (schedule_in b.run.now) ≡ length (schedule_in c.args.self.now.run) = ap (λ (x : ReplayState). length (schedule_in x.run)) c.self.view_is in
    let ne : b.position ≡ c.end_of.result → ⊥ = c.if-self-end_of.false in
    let more : b.position < length (schedule_in b.run.now) = omega (arith, ne, same, c.end_of.ensures, c.self.invariant.within) in
    core_found b c.next_of.result c.self.invariant more c.next_of.ensures ∙ ap (λ (x : ReplayState). slice_get (schedule_in x.run) x.position) c.self.view_is
