-- The registers of MOVSP.
use Rattle.std.proofs.Common.{◌≡◌, ◌<◌, ℕ, true, ltb, ltb-true}
use Rattle.std.proofs.lemmas.Bool.{and_parts}
use Rattle.xt_isa.specs.declared.Insn.TheVariants as insn
use Rattle.xt_isa.specs.declared.shift.Shift.TheVariants as shift
use Rattle.xt_isa.specs.Ranges.{in_range, two_registers}

pub planned_range : (t s : ℕ) → in_range (insn.Shift (shift.Movsp t s)) ≡ true → (t < 16) × (s < 16)
unfolding two_registers
planned_range t s h =
    let p = and_parts (ltb t 16) (ltb s 16) h in
    (ltb-true t 16 p.0, ltb-true s 16 p.1)

pub movsp_from : (t s : ℕ) → in_range (insn.Shift (shift.Movsp t s)) ≡ true → s < 16
movsp_from t s h = (planned_range t s h).1
