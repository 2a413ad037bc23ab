-- The judged step of a nested interrupt that shows no breach of uses: the frame state is filled and steps, and the machine of uses follows.
use Rattle.std.specs.Prelude.{unwrap_or, is_some}
use Rattle.std.proofs.Common.{◌≡◌, ℕ, ◌^◌, ◌<◌, ◌≢◌, Bool, true, false, ◌||◌, ◌&&◌, not, ltb, List, Option, Some, None, sym, ap, ◌∙◌, refl, arith, ⊎_elim, subst, get_or, cond}
use Rattle.std.proofs.lemmas.Bool.{and_parts, both_ways, cases_Bool, false≢true, or_from, or_left, or_right}
use Rattle.xt_isa.specs.declared.Insn.{Insn}
use Rattle.xt_isa.specs.declared.Insn.TheVariants as insn
use Rattle.xt_isa.specs.declared.system.System.TheVariants as system
use Rattle.xt_isa.specs.declared.system.SpecialName.TheVariants as SpecialName
use Rattle.xt_map.specs.declared.contents.MemoryContents.{MemoryContents}
use Rattle.xt_special.specs.Control.{special_of}
use Rattle.xt_window.specs.Ring.{place}
use Rattle.xt_rows.specs.Operands.{changes_interrupt, reads, special_reads}
use Rattle.xt_rows.specs.Outcomes.{value_of}
use Rattle.xt_exec.specs.State.{State}
use Rattle.xt_exec.specs.TurnLaws.{IsShaped}
use Rattle.xt_frames.specs.declared.holes.Nested.{Nested}
use Rattle.xt_frames.specs.Frames.{FrameState, value_or_zero}
use Rattle.xt_frames.specs.FrameStep.{with_inputs}
use Rattle.xt_frames.specs.Marks.{holds_marks, mark_read, moves_marks}
use Rattle.xt_frames.specs.Nesting.{nested_view}
use Rattle.xt_frames.specs.Breaches.{Bounds, is_unset, lost_of, reads_lost}
use Rattle.xt_simulation.specs.Nested.{Suspends}
use Rattle.xt_simulation.specs.Relation.{inputs}
use Rattle.xt_simulation.proofs.Laid.{laid_other}
use Rattle.xt_uses.specs.Words.{all_bits}
use Rattle.xt_uses.specs.UseBreaches.{holds_mark, reads_mark}
use Rattle.xt_uses.specs.UseState.{UseState, first_word, second_word, special_operand, special_word}
use Rattle.xt_uses.specs.Used.{counted_bits}
use Rattle.xt_uses.specs.Known.{result_mask, system_mask}
use Rattle.xt_simulation.specs.Knowing.{InnerFit, Knows, NestedFit}

-- the interrupt that f has is that which the machine of uses knows
pub inner_of : {masks : List ℕ} {o : Option Nested} {x y : Nested} → NestedFit masks o (Some y) → o ≡ Some x → InnerFit masks x y
inner_of {masks = masks} {y = y} k e = subst (λ (z : Option Nested). NestedFit masks z (Some y)) e k

-- ---- what is read in it
module _ {code : ℕ → ℕ} {b : Bounds} {m : MemoryContents} {s : State} {f : FrameState} {before : State} {opened : ℕ → ℕ} {suspended : State} (h : Suspends code b m s f before opened suspended) (shaped : IsShaped s) {us : UseState} (kn : Knows f us) where
  abbrev g0 : FrameState
  g0 = with_inputs (inputs 0 s) (nested_view h.x f)

  pub seen_small : (o : Option ℕ) → value_of (value_or_zero h.x.seen) o < 2 ^ 32
  seen_small None = omega arith
  seen_small (Some k) = by_value (get_or h.x.seen k None) refl
    where
      by_value : (o : Option ℕ) → get_or h.x.seen k None ≡ o → value_or_zero h.x.seen k < 2 ^ 32
      by_value None e = subst (λ z. z < 2 ^ 32) (sym (ap (λ (o : Option ℕ). unwrap_or o 0) e)) (omega arith)
      by_value (Some v) e = subst (λ z. z < 2 ^ 32) (h.inside.numbers k v e ∙ sym (ap (λ (o : Option ℕ). unwrap_or o 0) e)) (shaped.words (place s.base k))

  -- a special register that is neither lost nor without a number, or that may hold what is not known
  pub special_small : (o : Option ℕ) → reads_lost false o ≡ false → ((n : ℕ) → o ≡ Some n → holds_marks n ≡ false → is_unset f.unset (Some n) ≡ false) → value_of (special_of g0.control) o < 2 ^ 32
  special_small None lost there = omega arith
  special_small (Some n) lost there = ⊎_elim
      (λ mark. (laid_words n mark))
      (λ plain. subst (λ z. z < 2 ^ 32) (h.inside.even.special.at n (or_from (lost_of false n) (get_or f.unset n false) lost (there n refl plain))) (shaped.control.words n))
      (cases_Bool (holds_marks n))
    where
      laid_words : (k : ℕ) → holds_marks k ≡ true → special_of g0.control k < 2 ^ 32
      laid_words k mark =
          let not_bits : k ≢ 226 = λ e. both_ways (holds_marks k) (subst (λ j. holds_marks j ≡ false) (sym e) refl) mark in
          let not_count : k ≢ 234 = λ e. both_ways (holds_marks k) (subst (λ j. holds_marks j ≡ false) (sym e) refl) mark in
          subst (λ z. z < 2 ^ 32) (sym (laid_other f.control.special (special_of s.control 234) (special_of s.control 226) k not_bits not_count)) (kn.control.words k mark)

-- ---- a mark that is read has the mask 0
pub moves_hold : (i : Insn) (j : ℕ) (saved : List (Option ℕ)) → mark_read i saved ≡ Some j → moves_marks i ≡ true → (n : ℕ) × ((special_reads i).0 ≡ Some n) × (holds_marks n ≡ true) × (get_or saved n None ≡ Some j)
unfolding mark_read moves_marks special_reads
moves_hold (insn.System (system.Special SpecialName.Rsr t n)) j saved e h = (n, refl, (and_parts (ltb t 4) (holds_marks n) h).1, e)
moves_hold (insn.System (system.Special SpecialName.Xsr t n)) j saved e h = (n, refl, (and_parts (ltb t 4) (holds_marks n) h).1, e)
moves_hold _ j saved e h = absurd cc

-- RSR and XSR write what is known of the special register
pub moves_result : (i : Insn) (j : ℕ) (saved : List (Option ℕ)) (us : UseState) (h : FrameState) (r : ℕ) → mark_read i saved ≡ Some j → result_mask us.masks.discipline i (first_word i us h) (second_word i us h) (special_operand i us h) us.masks.threadptr r ≡ (special_operand i us h).mask
unfolding mark_read result_mask system_mask
moves_result (insn.System (system.Special SpecialName.Rsr t n)) j saved us h r e = refl
moves_result (insn.System (system.Special SpecialName.Xsr t n)) j saved us h r e = refl
moves_result _ j saved us h r e = absurd cc

-- a mark is read by what moves marks alone
pub reading_moves : (i : Insn) (j : ℕ) (x : Nested) → mark_read i x.saved ≡ Some j → reads_mark (Some x) i ≡ false → moves_marks i ≡ true
unfolding mark_read moves_marks special_reads reads
reading_moves (insn.System (system.Special SpecialName.Rsr t n)) j x e h = by_test (ltb t 4 && holds_marks n) h
  where
    has : is_some (get_or x.saved n None) ≡ true
    has = ap (λ (o : Option ℕ). is_some o) e

    by_test : (z : Bool) → (not z && (is_some (get_or x.saved n None) || false)) ≡ false → z ≡ true
    by_test true q = refl
    by_test false q = absurd (false≢true (sym q ∙ or_left _ _ has))
reading_moves (insn.System (system.Special SpecialName.Xsr t n)) j x e h = by_test (ltb t 4 && holds_marks n) h
  where
    has : is_some (get_or x.saved n None) ≡ true
    has = ap (λ (o : Option ℕ). is_some o) e

    by_test : (z : Bool) → (not z && (is_some (get_or x.marks t None) || (false || (is_some (get_or x.saved n None) || holds_mark x.saved (changes_interrupt n))))) ≡ false → z ≡ true
    by_test true q = refl
    by_test false q = absurd (false≢true (sym q ∙ or_right _ _ (or_left _ _ has)))
reading_moves _ j x e h = absurd cc

module _ (code : ℕ → ℕ) {b : Bounds} {m : MemoryContents} {s : State} {f : FrameState} {before : State} {opened : ℕ → ℕ} {suspended : State} (h : Suspends code b m s f before opened suspended) {us : UseState} (kn : Knows f us) where
  -- so its mask is 0
  pub mark_gone : (i : Insn) (j r : ℕ) (g : FrameState) → mark_read i h.x.saved ≡ Some j → reads_mark (Some h.x) i ≡ false → result_mask us.masks.discipline i (first_word i us g) (second_word i us g) (special_operand i us g) us.masks.threadptr r ≡ 0
  mark_gone i j r g e none =
      let moves = reading_moves i j h.x e none in
      let p = moves_hold i j h.x.saved e moves in
      let has = (h.inside.saved p.0 j p.3).1 in
      let zero : get_or us.masks.special p.0 0 ≡ 0 = kn.unset.lacks p.0 p.2 has in
      moves_result i j h.x.saved us g r e
      ∙ (ap (λ (o : Option ℕ). (special_word us g o).mask) p.1
      ∙ (ap (λ z. cond z (get_or us.masks.special p.0 0) (counted_bits us.masks.discipline p.0)) p.2 ∙ zero))
