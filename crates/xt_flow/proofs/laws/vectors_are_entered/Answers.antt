use Rattle.std.proofs.Common.{ℕ, zero, suc, ◌+◌, ◌<◌, ◌≤◌, Bool, true, false, Option, map, refl, arith}
use Rattle.std.specs.Prelude.{if◌then◌else◌, Contains}
use Rattle.xt_special.specs.Control.{Control, special_of}
use Rattle.xt_special.specs.Exceptions.{after_double, after_exception, after_general}
use Rattle.xt_special.specs.Interrupts.{after_high_level}
use Rattle.xt_special.specs.Numbers as number
use Rattle.xt_special.specs.WindowExceptions.{after_window_exception}
use Rattle.xt_flow.specs.FlowLaws.{StandsAtVector}
use Rattle.xt_flow.specs.Starts.{vector_offsets}
use Rattle.xt_flow.proofs.laws.vectors_are_entered.Goals as goal

window : (c : Control) (base vector : ℕ) → vector < 6 → StandsAtVector c (after_window_exception base vector c)
window c base zero small = (0, omega arith, refl)
window c base (suc zero) small = (1, omega arith, refl)
window c base (suc (suc zero)) small = (2, omega arith, refl)
window c base (suc (suc (suc zero))) small = (3, omega arith, refl)
window c base (suc (suc (suc (suc zero)))) small = (4, omega arith, refl)
window c base (suc (suc (suc (suc (suc zero))))) small = (5, omega arith, refl)
window c base (suc (suc (suc (suc (suc (suc n)))))) small = absurd (omega arith)

interrupt : (c : Control) (level : ℕ) → 2 ≤ level → level ≤ 5 → StandsAtVector c (after_high_level level c)
interrupt c zero least most = absurd (omega arith)
interrupt c (suc zero) least most = absurd (omega arith)
interrupt c (suc (suc zero)) least most = (6, omega arith, omega arith)
interrupt c (suc (suc (suc zero))) least most = (7, omega arith, omega arith)
interrupt c (suc (suc (suc (suc zero)))) least most = (8, omega arith, omega arith)
interrupt c (suc (suc (suc (suc (suc zero))))) least most = (9, omega arith, omega arith)
interrupt c (suc (suc (suc (suc (suc (suc n)))))) least most = absurd (omega arith)

general : (c : Control) (cause : ℕ) (address : Option ℕ) (um : Bool) → Contains (map (λ offset. special_of c number.vecbase + offset) vector_offsets) (special_of c number.vecbase + (if um then 0x340 else 0x300))
general c cause address true = (11, omega arith, refl)
general c cause address false = (10, omega arith, refl)

exception : (c : Control) (cause : ℕ) (address : Option ℕ) → StandsAtVector c (after_exception cause address c)
unfolding after_exception
exception c cause address =
    elim c.ps.excm as (λ b. StandsAtVector c (if b then after_double cause address c else after_general cause address c)) [
      | true ↦ (12, omega arith, refl)
      | false ↦ general c cause address c.ps.um
    ]

pub returns : goal.returns
returns c = λ s. record {
  exceptions = exception s;
  interrupts = interrupt s;
  windows = window s;
}
