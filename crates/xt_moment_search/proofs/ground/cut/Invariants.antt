use Rattle.xt_exec.specs.States.{file_state}
use Rattle.xt_exec.specs.TurnLaws.{IsShaped}
use Rattle.xt_moment_search.specs.KnownCores.{IsCut}
use Rattle.xt_moment_search.proofs.ground.cut.Given as goal

abbrev pub invariant-loop-register : goal.invariant-loop-register
invariant-loop-register l = record {
  shaped : IsShaped (file_state l.regs);
  cut : IsCut l.masks.regs (file_state l.initial.regs) (file_state l.regs);
}
