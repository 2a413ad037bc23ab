use Rattle.std.proofs.Common.{◌==◌, ◌&&◌, ap, ◌∙◌}
use Rattle.xt_exec.specs.State.{State}
use Rattle.xt_outcomes.specs.Spots.{Side}
use Rattle.xt_outcomes.proofs.timed.TimedMachine.is_end.Goals as goal

pub returns : goal.returns
returns c =
    c.have_ended.ensures
    ∙ ap (λ (s : Side State). (s.left == 0) && (c.as_ref-2.result.now.left == 0)) c.as_ref.ensures
    ∙ ap (λ (s : Side State). (c.args.world.now.side0.value.left == 0) && (s.left == 0)) c.as_ref-2.ensures
