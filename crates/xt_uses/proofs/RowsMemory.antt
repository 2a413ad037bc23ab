-- The rows of loads, stores and immediates agree.
use Rattle.std.proofs.Common.{◌≡◌, ℕ, ◌^◌, ◌<◌, ℤ, true, false, ◌==◌, refl, sym, ap}
use Rattle.std.specs.Prelude.{if◌then◌else◌}
use Rattle.std.proofs.lemmas.Bool.{and_parts}
use Rattle.xt_isa.specs.declared.Insn.TheVariants as insn
use Rattle.xt_isa.specs.declared.memory.Memory.{Memory}
use Rattle.xt_isa.specs.declared.memory.Memory.TheVariants as memory
use Rattle.xt_isa.specs.declared.memory.ByteName.TheVariants as ByteName
use Rattle.xt_isa.specs.declared.memory.HalfName.TheVariants as HalfName
use Rattle.xt_isa.specs.declared.memory.WordName.TheVariants as WordName
use Rattle.xt_isa.specs.declared.memory.WindowName.TheVariants as WindowName
use Rattle.xt_map.specs.Regions.{uart_transmit}
use Rattle.xt_special.specs.declared.ps.Ps.{Ps}
use Rattle.xt_rows.specs.Numbers.{plus, literal_address}
use Rattle.xt_rows.specs.Effects.{no_change}
use Rattle.xt_rows.specs.Kinds.{moved_to}
use Rattle.xt_rows.specs.Outcomes.{memory_outcome}
use Rattle.xt_uses.specs.declared.discipline.Discipline.{Discipline}
use Rattle.xt_uses.specs.Words.{Word, Fits, all_bits, is_whole, knows}
use Rattle.xt_uses.specs.Used.{low_bits, memory_used, store_used}
use Rattle.xt_uses.specs.Known.{memory_mask}
use Rattle.xt_uses.specs.UseLaws.{AgreeIn, RowMasks, OutcomesAgree}
use Rattle.xt_uses.proofs.Wholes.{whole_value, fits_agree}
use Rattle.xt_uses.proofs.Sums.{plus_agrees}
use Rattle.xt_uses.proofs.Agreed.{puts_agree, loads_agree, stores_agree, swaps_agree}

module _ (by : Discipline) (pc x y u : ℕ) (a b : Word) (f : Fits x a) (g : Fits y b) (h : x < 2 ^ 32) (l : y < 2 ^ 32) (ps : Ps) (t k : ℕ) (given pointer : ℕ) (p : AgreeIn pointer t k) where
  abbrev masks : Memory → RowMasks
  masks i = record { result = memory_mask i a all_bits; given = given; pointer = pointer; stored = b.mask }

  -- the address of a store is known
  pub address : (offset : ℤ) → store_used a b offset ≡ true → x ≡ a.value
  address offset used = sym (whole_value x a f h (and_parts (is_whole a) (if plus a.value offset == uart_transmit then knows (low_bits 8) b else true) used).0)

  pub memory_agrees : (code : ℕ → ℕ) (i : Memory) → a.mask < 2 ^ 32 → memory_used i a b ≡ true → OutcomesAgree by (insn.Memory i) (masks i) (memory_outcome code i pc x y u (no_change ps t)) (memory_outcome code i pc a.value b.value u (no_change ps k))
  unfolding memory_outcome memory_mask memory_used moved_to
  memory_agrees code (memory.Byte ByteName.L8ui q s offset) m used = loads_agree by (insn.Memory (memory.Byte ByteName.L8ui q s offset)) (masks (memory.Byte ByteName.L8ui q s offset)) ps t k p refl code 1 false q (plus x offset) (plus a.value offset) (ap (λ z. plus z offset) (sym (whole_value x a f h used)))
  memory_agrees code (memory.Byte ByteName.S8i q s offset) m used = stores_agree by (insn.Memory (memory.Byte ByteName.S8i q s offset)) (masks (memory.Byte ByteName.S8i q s offset)) ps t k p refl 1 y b.value (plus x offset) (plus a.value offset) (ap (λ z. plus z offset) (address offset used)) (fits_agree y b g)
  memory_agrees code (memory.Half HalfName.L16ui q s offset) m used = loads_agree by (insn.Memory (memory.Half HalfName.L16ui q s offset)) (masks (memory.Half HalfName.L16ui q s offset)) ps t k p refl code 2 false q (plus x offset) (plus a.value offset) (ap (λ z. plus z offset) (sym (whole_value x a f h used)))
  memory_agrees code (memory.Half HalfName.L16si q s offset) m used = loads_agree by (insn.Memory (memory.Half HalfName.L16si q s offset)) (masks (memory.Half HalfName.L16si q s offset)) ps t k p refl code 2 true q (plus x offset) (plus a.value offset) (ap (λ z. plus z offset) (sym (whole_value x a f h used)))
  memory_agrees code (memory.Half HalfName.S16i q s offset) m used = stores_agree by (insn.Memory (memory.Half HalfName.S16i q s offset)) (masks (memory.Half HalfName.S16i q s offset)) ps t k p refl 2 y b.value (plus x offset) (plus a.value offset) (ap (λ z. plus z offset) (address offset used)) (fits_agree y b g)
  memory_agrees code (memory.Word WordName.L32i q s offset) m used = loads_agree by (insn.Memory (memory.Word WordName.L32i q s offset)) (masks (memory.Word WordName.L32i q s offset)) ps t k p refl code 4 false q (plus x offset) (plus a.value offset) (ap (λ z. plus z offset) (sym (whole_value x a f h used)))
  memory_agrees code (memory.Word WordName.S32i q s offset) m used = stores_agree by (insn.Memory (memory.Word WordName.S32i q s offset)) (masks (memory.Word WordName.S32i q s offset)) ps t k p refl 4 y b.value (plus x offset) (plus a.value offset) (ap (λ z. plus z offset) (address offset used)) (fits_agree y b g)
  memory_agrees code (memory.Word WordName.L32ai q s offset) m used = loads_agree by (insn.Memory (memory.Word WordName.L32ai q s offset)) (masks (memory.Word WordName.L32ai q s offset)) ps t k p refl code 4 false q (plus x offset) (plus a.value offset) (ap (λ z. plus z offset) (sym (whole_value x a f h used)))
  memory_agrees code (memory.Word WordName.S32ri q s offset) m used = stores_agree by (insn.Memory (memory.Word WordName.S32ri q s offset)) (masks (memory.Word WordName.S32ri q s offset)) ps t k p refl 4 y b.value (plus x offset) (plus a.value offset) (ap (λ z. plus z offset) (address offset used)) (fits_agree y b g)
  memory_agrees code (memory.S32c1i q s offset) m used =
      let both = and_parts (is_whole a) (is_whole b) used in
      swaps_agree by (insn.Memory (memory.S32c1i q s offset)) (masks (memory.S32c1i q s offset)) ps t k p refl u y b.value q (plus x offset) (plus a.value offset) (ap (λ z. plus z offset) (sym (whole_value x a f h both.0))) (sym (whole_value y b g l both.1))
  memory_agrees code (memory.Window WindowName.L32e q s offset) m used = loads_agree by (insn.Memory (memory.Window WindowName.L32e q s offset)) (masks (memory.Window WindowName.L32e q s offset)) ps t k p refl code 4 false q (plus x offset) (plus a.value offset) (ap (λ z. plus z offset) (sym (whole_value x a f h used)))
  memory_agrees code (memory.Window WindowName.S32e q s offset) m used = stores_agree by (insn.Memory (memory.Window WindowName.S32e q s offset)) (masks (memory.Window WindowName.S32e q s offset)) ps t k p refl 4 y b.value (plus x offset) (plus a.value offset) (ap (λ z. plus z offset) (address offset used)) (fits_agree y b g)
  memory_agrees code (memory.L32r q offset) m used = loads_agree by (insn.Memory (memory.L32r q offset)) (masks (memory.L32r q offset)) ps t k p refl code 4 false q (literal_address pc offset) (literal_address pc offset) refl
  memory_agrees code (memory.Movi q n) m used = puts_agree by (insn.Memory (memory.Movi q n)) (masks (memory.Movi q n)) ps t k p refl q (plus 0 n) (plus 0 n) refl
  memory_agrees code (memory.Addi q s n) m used = puts_agree by (insn.Memory (memory.Addi q s n)) (masks (memory.Addi q s n)) ps t k p refl q (plus x n) (plus a.value n) (plus_agrees a.mask m x a.value n (fits_agree x a f))
  memory_agrees code (memory.Addmi q s n) m used = puts_agree by (insn.Memory (memory.Addmi q s n)) (masks (memory.Addmi q s n)) ps t k p refl q (plus x n) (plus a.value n) (plus_agrees a.mask m x a.value n (fits_agree x a f))
