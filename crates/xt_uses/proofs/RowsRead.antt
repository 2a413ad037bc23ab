-- The law of a row between a processor's control state and registers, and a state of the machine of
-- uses whose words fit them.
use Rattle.std.proofs.Common.{◌≡◌, ℕ, ◌^◌, ◌<◌, true, Option, Some, None, refl, subst, ap, arith}
use Rattle.std.specs.Prelude.{slice_index_or}
use Rattle.xt_isa.specs.declared.Insn.{Insn}
use Rattle.xt_special.specs.Control.{Control, special_of}
use Rattle.xt_rows.specs.RowLaws.{IsGiven, IsRegister}
use Rattle.xt_rows.specs.Operands.{reads, special_reads}
use Rattle.xt_rows.specs.Outcomes.{outcome, outcome_at, value_of}
use Rattle.xt_frames.specs.Frames.{FrameState, value_or_zero}
use Rattle.xt_uses.specs.Words.{Fits, masked}
use Rattle.xt_uses.specs.Used.{used_are_known}
use Rattle.xt_uses.specs.UseState.{UseState, current_masks, first_word, second_word, special_operand, special_word, visible_word}
use Rattle.xt_uses.specs.UseLaws.{IsKnownNumber, OthersAgree, OutcomesAgree, SpecialFits, masks_of_row}
use Rattle.xt_uses.proofs.RowsAll.{all_agree}

-- ---- operands, of a state s of which f is what the next step finds
module _ (s : UseState) (f : FrameState) where
  visible_is : (o : Option ℕ) → (visible_word s f o).value ≡ value_of (value_or_zero f.seen) o
  visible_is None = refl
  visible_is (Some n) = refl

  special_is : (o : Option ℕ) → (special_word s f o).value ≡ value_of (special_of f.control) o
  special_is None = refl
  special_is (Some n) = refl

  special_number : (o : Option ℕ) → IsKnownNumber s.masks.discipline o (special_word s f o)
  special_number None = refl
  special_number (Some n) = λ unmarked. rw unmarked refl

  pub visible_fits : (registers : ℕ → ℕ) → ((n : ℕ) → n < 16 → masked (slice_index_or (current_masks s) n 0) (registers n) ≡ value_or_zero f.seen n) → (o : Option ℕ) → IsRegister o → Fits (value_of registers o) (visible_word s f o)
  visible_fits registers fit None h = refl
  visible_fits registers fit (Some n) h = fit n h

  pub visible_mask : ((n : ℕ) → slice_index_or (current_masks s) n 0 < 2 ^ 32) → (o : Option ℕ) → (visible_word s f o).mask < 2 ^ 32
  visible_mask words None = omega arith
  visible_mask words (Some n) = words n

-- ---- what the row reads fits
pub record ReadsFit (i : Insn) (registers : ℕ → ℕ) (c : Control) (s : UseState) (f : FrameState) : Type 0 where
  pub first : Fits (value_of registers (reads i).0) (first_word i s f)
  pub second : Fits (value_of registers (reads i).1) (second_word i s f)
  pub first_mask : (first_word i s f).mask < 2 ^ 32
  pub second_mask : (second_word i s f).mask < 2 ^ 32
  pub special : SpecialFits (special_reads i).0 (value_of (special_of c) (special_reads i).0) (special_operand i s f)
  pub other : OthersAgree s.masks.discipline (special_reads i).1 (value_of (special_of c) (special_reads i).1) (value_of (special_of f.control) (special_reads i).1)
  pub pc : c.pc ≡ f.control.pc
  pub ps : c.ps ≡ f.control.ps
  pub threadptr : masked s.masks.threadptr c.threadptr ≡ f.control.threadptr

module _ (code : ℕ → ℕ) (i : Insn) (registers : ℕ → ℕ) (c : Control) (s : UseState) (f : FrameState) where
  same_read : ReadsFit i registers c s f
      → outcome code i c.pc (first_word i s f).value (second_word i s f).value (special_operand i s f).value (value_of (special_of f.control) (special_reads i).1) c.ps (masked s.masks.threadptr c.threadptr)
      ≡ outcome_at code i (value_or_zero f.seen) f.control
  same_read r =
      let x = visible_is s f (reads i).0 in
      let y = visible_is s f (reads i).1 in
      let u = special_is s f (special_reads i).0 in
      let a = r.pc in
      let b = r.ps in
      let t = r.threadptr in
      cc

  -- where what is used is known, the outcome over the registers agrees with the one over the words
  pub outcomes_agree : IsGiven i c.pc (value_of registers (reads i).0) (value_of registers (reads i).1) (value_of (special_of c) (special_reads i).0) (value_of (special_of c) (special_reads i).1) c.ps c.threadptr
      → ReadsFit i registers c s f → used_are_known s.masks.discipline i (first_word i s f) (second_word i s f) ≡ true
      → OutcomesAgree s.masks.discipline i (masks_of_row s.masks.discipline i (first_word i s f) (second_word i s f) (special_operand i s f) s.masks.threadptr) (outcome_at code i registers c) (outcome_at code i (value_or_zero f.seen) f.control)
  outcomes_agree given r used =
      subst (λ o. OutcomesAgree s.masks.discipline i (masks_of_row s.masks.discipline i (first_word i s f) (second_word i s f) (special_operand i s f) s.masks.threadptr) (outcome_at code i registers c) o)
      (same_read r)
      (all_agree s.masks.discipline code i c.pc (value_of registers (reads i).0) (value_of registers (reads i).1) (value_of (special_of c) (special_reads i).0) (value_of (special_of c) (special_reads i).1) (value_of (special_of f.control) (special_reads i).1)
      c.ps c.threadptr s.masks.threadptr (first_word i s f) (second_word i s f) (special_operand i s f) given
      (record {
        first = r.first;
        second = r.second;
        special = r.special;
        other = r.other;
        same = λ e. (ap (value_of registers) e, ap (visible_word s f) e);
        first_mask = r.first_mask;
        second_mask = r.second_mask;
        number = special_number s f (special_reads i).0;
        used = used;
      }))
