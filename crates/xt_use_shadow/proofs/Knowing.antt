-- Each bit of what a turn in step reads is known.
use Rattle.std.proofs.Common.{◌≡◌, ℕ, ◌||◌, eqb, true, cond, Option, Some, None, ⊎_elim, refl, sym, ◌∙◌, ap, get_or, subst}
use Rattle.std.specs.Prelude.{is_some}
use Rattle.std.proofs.lemmas.Bool.{cases_eq, false≢true, ne_eqb, or_from}
use Rattle.xt_isa.specs.declared.Insn.{Insn}
use Rattle.xt_rows.specs.Operands.{reads, special_reads}
use Rattle.xt_frames.specs.declared.holes.Nested.{Nested}
use Rattle.xt_frames.specs.Frames.{FrameState}
use Rattle.xt_shadow.specs.Lookups.{IsOperand}
use Rattle.xt_uses.specs.UseQuick.{AreWhole}
use Rattle.xt_uses.specs.UseState.{UseState, ValidityBits, special_mask, special_word, visible_word}
use Rattle.xt_uses.specs.Words.{all_bits}
use Rattle.xt_use_shadow.specs.Shadows.{AreKnown, KnownAt}

visible_known : (s : UseState) (f : FrameState) (o : Option ℕ) → s.frame.nested ≡ None → KnownAt s.masks.seen o → (visible_word s f o).mask ≡ all_bits
visible_known s f None none k = refl
visible_known s f (Some i) none k = ap (λ (o : Option Nested). get_or (cond (is_some o) s.masks.inner s.masks.seen) i 0) none ∙ k

special_at : (m : ValidityBits) (n : ℕ) → (eqb n 3 || (eqb n 4 || eqb n 12)) ≡ true → special_mask m n ≡ all_bits
special_at m n k =
    let M : ℕ → Type 0 = λ i. special_mask m i ≡ all_bits in
    let sar : special_mask m 3 ≡ all_bits = refl in
    let br : special_mask m 4 ≡ all_bits = refl in
    let scompare1 : special_mask m 12 ≡ all_bits = refl in
    ⊎_elim
    (λ e. subst M (sym e) sar)
    (λ a. ⊎_elim
    (λ e. subst M (sym e) br)
    (λ b. ⊎_elim
    (λ e. subst M (sym e) scompare1)
    (λ c. absurd (false≢true (sym (or_from _ _ (ne_eqb n 3 a) (or_from _ _ (ne_eqb n 4 b) (ne_eqb n 12 c))) ∙ k)))
    (cases_eq n 12))
    (cases_eq n 4))
    (cases_eq n 3)

special_known : (s : UseState) (f : FrameState) (o : Option ℕ) → IsOperand o → (special_word s f o).mask ≡ all_bits
special_known s f None k = refl
special_known s f (Some n) k = special_at s.masks n k

pub are_whole : (i : Insn) (s : UseState) (f : FrameState) → s.frame.nested ≡ None → AreKnown i s.masks.seen → AreWhole i s f
are_whole i s f none k = record {
  first = visible_known s f (reads i).0 none k.first;
  second = visible_known s f (reads i).1 none k.second;
  special = special_known s f (special_reads i).0 k.special;
}
