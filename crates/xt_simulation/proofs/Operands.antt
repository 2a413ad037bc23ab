-- What a row reads: the words of the machine of uses fit the numbers that stand, so the outcomes agree.
use Rattle.std.proofs.Common.{◌≡◌, ℕ, ◌+◌, ◌^◌, ◌<◌, Bool, true, false, ◌||◌, eqb, leb, ℤ, pos, negsuc, Option, Some, None, sym, ap, ◌∙◌, refl, arith, ⊎_elim, subst, get_or, cond}
use Rattle.std.proofs.lemmas.Bool.{cases_Bool, false_from_ne_true, and_parts, leb-true, or_parts}
use Rattle.std.proofs.lemmas.Nat.{and_mask}
use Rattle.std.specs.Int.Bits.{and_zero_l}
use Rattle.xt_isa.specs.declared.Insn.{Insn}
use Rattle.xt_isa.specs.declared.Insn.TheVariants as insn
use Rattle.xt_isa.specs.declared.three.Three.TheVariants as three
use Rattle.xt_isa.specs.declared.shift.Shift.TheVariants as shift
use Rattle.xt_isa.specs.declared.memory.Memory.TheVariants as memory
use Rattle.xt_isa.specs.declared.system.System.TheVariants as system
use Rattle.xt_isa.specs.declared.system.ExceptionReturnName.TheVariants as ExceptionReturnName
use Rattle.xt_isa.specs.declared.system.SpecialName.TheVariants as SpecialName
use Rattle.xt_isa.specs.Ranges.{in_range, natural_within}
use Rattle.xt_special.specs.Control.{special_of}
use Rattle.xt_special.specs.Access.{is_ccompare, is_eps}
use Rattle.xt_rows.specs.RowLaws.{IsGiven}
use Rattle.xt_rows.specs.Numbers.{natural}
use Rattle.xt_rows.specs.Operands.{reads, special_reads, changes_interrupt}
use Rattle.xt_rows.specs.Outcomes.{outcome, outcome_at, value_of}
use Rattle.xt_frames.specs.Frames.{FrameState, value_or_zero}
use Rattle.xt_frames.specs.Marks.{holds_marks}
use Rattle.xt_uses.specs.Words.{Fits, all_bits, masked, whole_word}
use Rattle.xt_uses.specs.Used.{counted_bits, used_are_known}
use Rattle.xt_uses.specs.UseState.{UseState, current_masks, first_word, second_word, special_operand, special_word, visible_word}
use Rattle.xt_uses.specs.UseLaws.{AgreeIn, IsKnownNumber, OthersAgree, OutcomesAgree, RowMasks, RowsAgree, SpecialFits, masks_of_row}
use Rattle.xt_uses.proofs.Owb.{counts_all}
use Rattle.xt_uses.proofs.Wholes.{fits_agree}
use Rattle.xt_simulation.specs.Knowing.{NowFit}
use Rattle.xt_simulation.proofs.Specials.{mark_range, whole_number}

pub cut_all : (n : ℕ) → n < 2 ^ 32 → masked all_bits n ≡ n
cut_all n h = let e = and_mask n 32 in omega (arith, e)

-- ---- the second special register that a row reads holds no mark
abbrev pub NoMark : Option ℕ → Type 0
NoMark None = Unit {0}
NoMark (Some n) = holds_marks n ≡ false

pub small_level : (level : ℤ) → natural_within 2 7 level ≡ true → natural level < 8
unfolding natural natural_within
small_level (pos n) h = let e = leb-true n 7 (and_parts (leb 2 n) (leb n 7) h).1 in omega arith
small_level (negsuc n) h = omega arith

pub low_mark : (n : ℕ) → n < 200 → holds_marks n ≡ false
low_mark n h = false_from_ne_true (holds_marks n) (λ t. ⊎_elim (λ r. let lo = r.0 in omega arith) (λ r. let lo = r.0 in omega arith) (mark_range n t))

pub low_number : (n : ℕ) → n < 194 → is_eps n ≡ false
low_number n h = false_from_ne_true (is_eps n) (λ t. let e = leb-true 194 n (and_parts (leb 194 n) (leb n 199) t).0 in omega arith)

interrupt_mark : (n : ℕ) → NoMark (changes_interrupt n)
interrupt_mark n = by_test (eqb n 226 || (eqb n 227 || is_ccompare n))
  where
    by_test : (b : Bool) → NoMark (cond b (Some 226) None)
    by_test true = refl
    by_test false = tt

pub second_special : (i : Insn) → in_range i ≡ true → NoMark (special_reads i).1
unfolding special_reads
second_special (insn.Three (three.Src r s t)) ok = tt
second_special (insn.Three _) ok = tt
second_special (insn.Shift (shift.ShiftRight name r t)) ok = tt
second_special (insn.Shift (shift.Sll r s)) ok = tt
second_special (insn.Shift _) ok = tt
second_special (insn.Memory (memory.S32c1i t s offset)) ok = tt
second_special (insn.Memory _) ok = tt
second_special (insn.Control i) ok = tt
second_special (insn.System (system.ExceptionReturn ExceptionReturnName.Rfe)) ok = tt
second_special (insn.System (system.ExceptionReturn ExceptionReturnName.Rfde)) ok = tt
second_special (insn.System (system.ExceptionReturn ExceptionReturnName.Rfwo)) ok = tt
second_special (insn.System (system.ExceptionReturn ExceptionReturnName.Rfwu)) ok = tt
second_special (insn.System (system.Rfi level)) ok = low_mark (192 + natural level) (let s = small_level level ok in omega arith)
second_special (insn.System (system.Special SpecialName.Rsr t n)) ok = tt
second_special (insn.System (system.Special SpecialName.Wsr t n)) ok = interrupt_mark n
second_special (insn.System (system.Special SpecialName.Xsr t n)) ok = interrupt_mark n
second_special (insn.System _) ok = tt
second_special (insn.Density i) ok = tt
second_special (insn.Boolean i) ok = tt

-- ---- words and numbers
pub word_value : (s : UseState) (h : FrameState) (o : Option ℕ) → (visible_word s h o).value ≡ value_of (value_or_zero h.seen) o
word_value s h None = refl
word_value s h (Some k) = refl

pub special_value : (s : UseState) (h : FrameState) (o : Option ℕ) → (special_word s h o).value ≡ value_of (special_of h.control) o
special_value s h None = refl
special_value s h (Some n) = refl

whole_zero : Fits 0 (whole_word 0)
whole_zero = and_zero_l all_bits

known_number : (s : UseState) (h : FrameState) (o : Option ℕ) → IsKnownNumber s.masks.discipline o (special_word s h o)
known_number s h None = refl
known_number s h (Some n) = λ other. ap (λ (b : Bool). cond b (get_or s.masks.special n 0) (counted_bits s.masks.discipline n)) other

-- masks are words
pub record AreMasks (s : UseState) : Type 0 where
  pub seen : (i : ℕ) → get_or (current_masks s) i 0 < 2 ^ 32

pub mask_small : (s : UseState) (h : FrameState) → AreMasks s → (o : Option ℕ) → (visible_word s h o).mask < 2 ^ 32
mask_small s h w None = omega arith
mask_small s h w (Some k) = w.seen k

-- what the row is given of the frame state
abbrev pub IsGivenAt : Insn → FrameState → Type 0
IsGivenAt i g = IsGiven i g.control.pc (value_of (value_or_zero g.seen) (reads i).0) (value_of (value_or_zero g.seen) (reads i).1) (value_of (special_of g.control) (special_reads i).0) (value_of (special_of g.control) (special_reads i).1) g.control.ps g.control.threadptr

abbrev pub row_masks : Insn → UseState → FrameState → RowMasks
row_masks i s h = masks_of_row s.masks.discipline i (first_word i s h) (second_word i s h) (special_operand i s h) s.masks.threadptr

module _ {s : UseState} {g h : FrameState} (f : NowFit s g h) where
  pub word_fits : (o : Option ℕ) → Fits (value_of (value_or_zero g.seen) o) (visible_word s h o)
  word_fits None = whole_zero
  word_fits (Some k) = f.seen.fits k

  even_at : (n : ℕ) → holds_marks n ≡ false → is_eps n ≡ false → special_of g.control n ≡ special_of h.control n
  even_at n mark eps = f.control.even.special.at n (whole_number n mark eps)

  special_fits : (o : Option ℕ) → value_of (special_of g.control) o < 2 ^ 32 → SpecialFits o (value_of (special_of g.control) o) (special_word s h o)
  special_fits None small = whole_zero
  special_fits (Some n) small = ⊎_elim
      (λ mark.
      let fits : Fits (special_of g.control n) (special_word s h (Some n)) = ap (λ (b : Bool). masked (cond b (get_or s.masks.special n 0) (counted_bits s.masks.discipline n)) (special_of g.control n)) mark ∙ f.control.fits n mark in
      (λ owb. fits, fits_agree (special_of g.control n) (special_word s h (Some n)) fits))
      (λ other.
      let mask : (special_word s h (Some n)).mask ≡ counted_bits s.masks.discipline n = ap (λ (b : Bool). cond b (get_or s.masks.special n 0) (counted_bits s.masks.discipline n)) other in (
        λ owb.
            let same = even_at n other (or_parts (eqb n 230) (is_eps n) owb).1 in
            ap (λ m. masked m (special_of g.control n)) (mask ∙ counts_all s.masks.discipline n owb) ∙ (cut_all (special_of g.control n) small ∙ same),
        subst (λ m. AgreeIn m (special_of g.control n) (special_of h.control n)) (sym mask) (agrees_at n other),
      ))
      (cases_Bool (holds_marks n))
    where
      agrees_at : (n : ℕ) → holds_marks n ≡ false → AgreeIn (counted_bits s.masks.discipline n) (special_of g.control n) (special_of h.control n)
      agrees_at n other = ⊎_elim
          (λ eps. f.control.saved n eps)
          (λ no_eps. ap (masked (counted_bits s.masks.discipline n)) (even_at n other no_eps))
          (cases_Bool (is_eps n))

  pub others_agree : (o : Option ℕ) → NoMark o → OthersAgree s.masks.discipline o (value_of (special_of g.control) o) (value_of (special_of h.control) o)
  others_agree None e = refl
  others_agree (Some n) e = (
    λ owb. even_at n e (or_parts (eqb n 230) (is_eps n) owb).1,
    ⊎_elim
        (λ eps. f.control.saved n eps)
        (λ no_eps. ap (masked (counted_bits s.masks.discipline n)) (even_at n e no_eps))
        (cases_Bool (is_eps n)),
  )

  pub row_agrees : RowsAgree → AreMasks s → (code : ℕ → ℕ) (i : Insn) → IsGivenAt i g → used_are_known s.masks.discipline i (first_word i s h) (second_word i s h) ≡ true
      → OutcomesAgree s.masks.discipline i (row_masks i s h) (outcome_at code i (value_or_zero g.seen) g.control) (outcome_at code i (value_or_zero h.seen) h.control)
  row_agrees rows small code i given used =
      let a = first_word i s h in
      let b = second_word i s h in
      let c = special_operand i s h in
      let x = value_of (value_or_zero g.seen) (reads i).0 in
      let y = value_of (value_or_zero g.seen) (reads i).1 in
      let u = value_of (special_of g.control) (special_reads i).0 in
      let v = value_of (special_of g.control) (special_reads i).1 in
      let w = value_of (special_of h.control) (special_reads i).1 in
      let here = rows s.masks.discipline code i g.control.pc x y u v w g.control.ps g.control.threadptr s.masks.threadptr a b c given (record {
        first = word_fits (reads i).0;
        second = word_fits (reads i).1;
        special = special_fits (special_reads i).0 given.u_word;
        other = others_agree (special_reads i).1 (second_special i given.range);
        same = λ e. (ap (value_of (value_or_zero g.seen)) e, ap (visible_word s h) e);
        first_mask = mask_small s h small (reads i).0;
        second_mask = mask_small s h small (reads i).1;
        number = known_number s h (special_reads i).0;
        used = used;
      }) in
      subst (OutcomesAgree s.masks.discipline i (row_masks i s h) (outcome_at code i (value_or_zero g.seen) g.control)) same here
    where
      same : outcome code i g.control.pc (first_word i s h).value (second_word i s h).value (special_operand i s h).value (value_of (special_of h.control) (special_reads i).1) g.control.ps (masked s.masks.threadptr g.control.threadptr) ≡ outcome_at code i (value_or_zero h.seen) h.control
      same =
          let a = word_value s h (reads i).0 in
          let b = word_value s h (reads i).1 in
          let c = special_value s h (special_reads i).0 in
          let e : g.control.pc ≡ h.control.pc = f.control.even.pc in
          let k : g.control.ps ≡ h.control.ps = f.control.even.ps in
          let t = f.control.pointer in
          cc
