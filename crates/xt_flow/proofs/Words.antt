-- The marks of the two tables are right.
use Rattle.std.proofs.Common.{◌≡◌, ℕ, zero, suc, ◌+◌, ◌-◌, ◌%◌, ◌<◌, ◌≤◌, Bool, true, false, ◌&&◌, ◌||◌, List, ◌⊎◌, inl, inr, ⊎_elim, sym, ap, ◌∙◌, arith}
use Rattle.std.specs.Prelude.{if◌then◌else◌, is_some, nat_lt, not, IfOk, Result, Ok, Err}
use Rattle.std.proofs.lemmas.Bool.{and_from, and_parts, cases_lt, false_from_ne_true, lt-ltb, ltb-true, not-true, not_from_false, or_from, or_parts}
use Rattle.xt_map.specs.declared.segment.Segment.{Segment}
use Rattle.xt_image.specs.declared.image.Image.{Image}
use Rattle.xt_isa.specs.Spelling.{within}
use Rattle.xt_disasm.specs.Listing.{byte_at}
use Rattle.xt_flow.specs.Following.{code_from, insn_at, length_at}
use Rattle.xt_flow.specs.FlowTables.{IsVisited, first_place, is_free, is_long, is_marked, is_reached, marks_of, starts_within}
use Rattle.xt_flow.specs.Printing.{IsFlowText, IsMarked, text_by}
use Rattle.xt_flow.specs.Starts.{Follows, HoldsInsn, IsWord, Opens, Starts}
use Rattle.xt_flow.proofs.Tables.{marked_high}

-- an instruction has two or three bytes
two_or_three : (b : Bool) → (2 ≤ (if b then 2 else 3)) × ((if b then 2 else 3) ≤ 3)
two_or_three true = (omega arith, omega arith)
two_or_three false = (omega arith, omega arith)

length_at-small : (segments : List Segment) (a : ℕ) → (2 ≤ length_at segments a) × (length_at segments a ≤ 3)
length_at-small segments a = two_or_three (within 8 13 (byte_at (code_from segments a) 0 % 16))

-- where one starts an instruction lies
start_holds : (image : Image) (vecbase entry1 : ℕ) (roots : List ℕ) (a : ℕ) → Starts image vecbase entry1 roots a → HoldsInsn image a
start_holds image vecbase entry1 roots x (Opens a here holds) = holds
start_holds image vecbase entry1 roots x (Follows a b from here holds) = holds

-- ---- four bytes that are free

none_of : (starts : List Bool) (w k : ℕ) → k < 4 → is_marked starts (w + k) ≡ true → is_marked starts w ≡ false → is_marked starts (w + 1) ≡ false → is_marked starts (w + 2) ≡ false → is_marked starts (w + 3) ≡ false → ⊥
none_of starts w zero small h p q r s = (let e : is_marked starts w ≡ true = ap (is_marked starts) (omega arith) ∙ h in cc)
none_of starts w (suc zero) small h p q r s = cc
none_of starts w (suc (suc zero)) small h p q r s = cc
none_of starts w (suc (suc (suc zero))) small h p q r s = cc
none_of starts w (suc (suc (suc (suc n)))) small h p q r s = absurd (omega arith)

none_inside : (starts : List Bool) (w k : ℕ) → starts_within starts w ≡ false → k < 4 → is_marked starts (w + k) ≡ true → ⊥
none_inside starts w k inside small h =
    let all = or_parts (is_marked starts w) (is_marked starts (w + 1) || (is_marked starts (w + 2) || is_marked starts (w + 3))) inside in
    let later = or_parts (is_marked starts (w + 1)) (is_marked starts (w + 2) || is_marked starts (w + 3)) all.1 in
    let last = or_parts (is_marked starts (w + 2)) (is_marked starts (w + 3)) later.1 in
    none_of starts w k small h all.0 later.0 last.0 last.1

is_free_parts : (segments : List Segment) (starts : List Bool) (w : ℕ) → is_free segments starts w ≡ true → (is_reached segments starts w ≡ false) × (starts_within starts w ≡ false)
unfolding is_free
is_free_parts segments starts w free =
    let parts = and_parts (not (is_reached segments starts w)) (not (starts_within starts w)) free in
    (not-true (is_reached segments starts w) parts.0, not-true (starts_within starts w) parts.1)

is_free_from : (segments : List Segment) (starts : List Bool) (w : ℕ) → is_reached segments starts w ≡ false → starts_within starts w ≡ false → is_free segments starts w ≡ true
unfolding is_free
is_free_from segments starts w reached inside =
    and_from (not (is_reached segments starts w)) (not (starts_within starts w)) (not_from_false (is_reached segments starts w) reached) (not_from_false (starts_within starts w) inside)

both : {P : Type 0} (b : Bool) → b ≡ true → b ≡ false → P
both true x y = absurd cc
both false x y = absurd cc

-- an instruction that starts does not touch them
apart : (segments : List Segment) (starts : List Bool) (w a : ℕ) → 2 ≤ w → is_free segments starts w ≡ true → is_marked starts a ≡ true → is_some (insn_at segments a) ≡ true
    → (a + length_at segments a ≤ w) ⊎ (w + 4 ≤ a)
apart segments starts w a low free marked holds =
    let parts = is_free_parts segments starts w free in
    let reached = or_parts (is_marked starts (w - 1)) (is_marked starts (w - 2) && is_long segments (w - 2)) parts.0 in
    let size = length_at-small segments a in
    let least = size.0 in
    let most = size.1 in
    ⊎_elim
    (λ (before : a < w).
    ⊎_elim
    (λ (ends : a + length_at segments a < w + 1). inl (omega arith))
    (λ (over : w + 1 ≤ a + length_at segments a).
    ⊎_elim
    (λ (two : a < w - 1).
    let place : a ≡ w - 2 = omega arith in
    let long : is_long segments a ≡ true = and_from (is_some (insn_at segments a)) (nat_lt 2 (length_at segments a)) holds (lt-ltb 2 (length_at segments a) (omega arith)) in
    let touched : (is_marked starts a && is_long segments a) ≡ true = and_from (is_marked starts a) (is_long segments a) marked long in
    both (is_marked starts (w - 2) && is_long segments (w - 2)) (sym (ap (λ x. is_marked starts x && is_long segments x) place) ∙ touched) reached.1)
    (λ (one : w - 1 ≤ a).
    let place : a ≡ w - 1 = omega arith in
    both (is_marked starts (w - 1)) (sym (ap (is_marked starts) place) ∙ marked) reached.0)
    (cases_lt a (w - 1)))
    (cases_lt (a + length_at segments a) (w + 1)))
    (λ (after : w ≤ a).
    ⊎_elim
    (λ (within_four : a < w + 4).
    let place : w + (a - w) ≡ a = omega arith in
    absurd (none_inside starts w (a - w) parts.1 (omega arith) (ap (is_marked starts) place ∙ marked)))
    (λ (behind : w + 4 ≤ a). inr behind)
    (cases_lt a (w + 4)))
    (cases_lt a w)

-- ---- the marks

module _ (image : Image) (vecbase entry1 : ℕ) (roots : List ℕ) (starts reads : List Bool) (visited : IsVisited image vecbase entry1 roots starts reads) (w : ℕ) where
  to_word : (is_marked reads w && is_free image.segments starts w) ≡ true → IsWord image vecbase entry1 roots w
  to_word h =
      let parts = and_parts (is_marked reads w) (is_free image.segments starts w) h in
      let high : first_place ≤ w = marked_high reads w parts.0 in
      record {
        read = (visited.read w).0 parts.0;
        free = λ a start. apart image.segments starts w a (omega arith) parts.1 ((visited.started a).1 start) (start_holds image vecbase entry1 roots a start);
      }

  -- no start touches a word
  not_touched : IsWord image vecbase entry1 roots w → (a : ℕ) → w < a + length_at image.segments a → a < w + 4 → is_marked starts a ≡ false
  not_touched word a over before =
      false_from_ne_true (is_marked starts a) (λ (h : is_marked starts a ≡ true).
      ⊎_elim
      (λ (ends : a + length_at image.segments a ≤ w). (let no_way : ⊥ = absurd (omega arith) in no_way))
      (λ (behind : w + 4 ≤ a). (let no_way : ⊥ = absurd (omega arith) in no_way))
      (word.free a ((visited.started a).0 h)))

  from_word : IsWord image vecbase entry1 roots w → (is_marked reads w && is_free image.segments starts w) ≡ true
  from_word word =
      let read : is_marked reads w ≡ true = (visited.read w).1 word.read in
      let high : first_place ≤ w = marked_high reads w read in
      let at_one = length_at-small image.segments (w - 1) in
      let one : is_marked starts (w - 1) ≡ false = not_touched word (w - 1) (let least = at_one.0 in omega arith) (omega arith) in
      let two : (is_marked starts (w - 2) && is_long image.segments (w - 2)) ≡ false =
      false_from_ne_true (is_marked starts (w - 2) && is_long image.segments (w - 2)) (λ (h : (is_marked starts (w - 2) && is_long image.segments (w - 2)) ≡ true).
      let parts = and_parts (is_marked starts (w - 2)) (is_long image.segments (w - 2)) h in
      let long = and_parts (is_some (insn_at image.segments (w - 2))) (nat_lt 2 (length_at image.segments (w - 2))) parts.1 in
      let three : 2 < length_at image.segments (w - 2) = ltb-true 2 (length_at image.segments (w - 2)) long.1 in
      both (is_marked starts (w - 2)) parts.0 (not_touched word (w - 2) (omega arith) (omega arith))) in
      let at : (k : ℕ) → k < 4 → is_marked starts (w + k) ≡ false = λ k small. (let least = (length_at-small image.segments (w + k)).0 in not_touched word (w + k) (omega arith) (omega arith)) in
      let zero_is : is_marked starts w ≡ false = ap (is_marked starts) (omega arith) ∙ at 0 (omega arith) in
      let inside : starts_within starts w ≡ false =
      or_from (is_marked starts w) (is_marked starts (w + 1) || (is_marked starts (w + 2) || is_marked starts (w + 3))) zero_is
      (or_from (is_marked starts (w + 1)) (is_marked starts (w + 2) || is_marked starts (w + 3)) (at 1 (omega arith))
      (or_from (is_marked starts (w + 2)) (is_marked starts (w + 3)) (at 2 (omega arith)) (at 3 (omega arith)))) in
      and_from (is_marked reads w) (is_free image.segments starts w) read
      (is_free_from image.segments starts w (or_from (is_marked starts (w - 1)) (is_marked starts (w - 2) && is_long image.segments (w - 2)) one two) inside)

pub marks_are_right : (image : Image) (vecbase entry1 : ℕ) (roots : List ℕ) (starts reads : List Bool) → IsVisited image vecbase entry1 roots starts reads → IsMarked image vecbase entry1 roots (marks_of image.segments starts reads)
marks_are_right image vecbase entry1 roots starts reads visited = record {
  starts = λ a. visited.started a;
  words = λ w. (to_word image vecbase entry1 roots starts reads visited w, from_word image vecbase entry1 roots starts reads visited w);
}

-- the text by the two tables
pub text_is_right : {E : Type 0} (image : Image) (vecbase entry1 : ℕ) (roots : List ℕ) (starts reads : List Bool) (text : Result (List ℕ) E) → IsVisited image vecbase entry1 roots starts reads
    → IfOk text (λ t. t ≡ text_by (marks_of image.segments starts reads) image) → IfOk text (λ t. IsFlowText image vecbase entry1 roots t)
text_is_right image vecbase entry1 roots starts reads (Ok t) visited is = (marks_of image.segments starts reads, (marks_are_right image vecbase entry1 roots starts reads visited, is))
text_is_right image vecbase entry1 roots starts reads (Err e) visited is = tt
