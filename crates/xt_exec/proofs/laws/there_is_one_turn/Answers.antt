use Rattle.std.proofs.Common.{refl, sym, ap}
use Rattle.xt_trace.specs.declared.record.StepRecord.{StepRecord}
use Rattle.xt_exec.specs.State.{State}
use Rattle.xt_exec.specs.Turn.{turn}
use Rattle.xt_exec.proofs.laws.there_is_one_turn.Goals as goal

pub returns : goal.returns
returns g = λ code s reply. (
  (turn code s reply).0,
  (turn code s reply).1,
  refl,
  λ r t is. (ap (λ (p : StepRecord × State). p.0) (sym is), ap (λ (p : StepRecord × State). p.1) (sym is)),
)
