-- The six common handlers pass the check, by evaluation.
use Rattle.std.proofs.Common.{◌≡◌, refl}
use Rattle.xt_isa.specs.Spelling.{spelled_insn, all_rows}
use Rattle.xt_handlers.specs.declared.stretch.Side.TheVariants.{Overflow, Underflow}
use Rattle.xt_handlers.specs.declared.stretch.HandlerVerdict.TheVariants.{Yes}
use Rattle.xt_handlers.specs.Needs.{has_effect}
use Rattle.xt_handlers.specs.Handling.{handling_verdict}
use Rattle.xt_handlers.specs.Spelled.{step_of, step_of_insn, lines_of}
use Rattle.xt_handlers.specs.Common.{overflow4, underflow4, overflow8, underflow8, overflow12, underflow12, CommonHandlersPass}

overflow4_passes : handling_verdict Overflow 1 (lines_of overflow4) ≡ Yes
unfolding lines_of step_of spelled_insn all_rows step_of_insn has_effect
overflow4_passes = refl

underflow4_passes : handling_verdict Underflow 1 (lines_of underflow4) ≡ Yes
unfolding lines_of step_of spelled_insn all_rows step_of_insn has_effect
underflow4_passes = refl

overflow8_passes : handling_verdict Overflow 2 (lines_of overflow8) ≡ Yes
unfolding lines_of step_of spelled_insn all_rows step_of_insn has_effect
overflow8_passes = refl

underflow8_passes : handling_verdict Underflow 2 (lines_of underflow8) ≡ Yes
unfolding lines_of step_of spelled_insn all_rows step_of_insn has_effect
underflow8_passes = refl

overflow12_passes : handling_verdict Overflow 3 (lines_of overflow12) ≡ Yes
unfolding lines_of step_of spelled_insn all_rows step_of_insn has_effect
overflow12_passes = refl

underflow12_passes : handling_verdict Underflow 3 (lines_of underflow12) ≡ Yes
unfolding lines_of step_of spelled_insn all_rows step_of_insn has_effect
underflow12_passes = refl

pub common_handlers_pass : CommonHandlersPass
common_handlers_pass = record {
  of4 = overflow4_passes;
  uf4 = underflow4_passes;
  of8 = overflow8_passes;
  uf8 = underflow8_passes;
  of12 = overflow12_passes;
  uf12 = underflow12_passes;
}
