use Rattle.std.proofs.Common.{◌≡◌, IfOk, List, subst}
use Rattle.xt_map.specs.Memory.{constant_byte}
use Rattle.xt_frames.specs.declared.kinds.HandlerPhase.{HandlerPhase}
use Rattle.xt_trace.specs.declared.record.StepRecord.{StepRecord}
use Rattle.xt_discipline.specs.Phases.{phases_of}
use Rattle.xt_profile.proofs.later.phases_in.Goals as goal

pub returns : goal.returns
returns c =
    let code = constant_byte c.args.code.now in
    subst (λ (xs : List StepRecord). IfOk c.phases.result (λ (p : List HandlerPhase). p ≡ phases_of code xs))
    c.in_ok-all.ensures c.phases.ensures
