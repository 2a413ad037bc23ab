-- A walk over bytes, line by line of a text.
use Rattle.std.proofs.Common.{◌≡◌, ℕ, zero, suc, ◌+◌, ◌%◌, ◌<◌, ◌≤◌, Bool, true, false, List, [], ◌∷◌, ◌++◌, length, drop, Option, Some, None, refl, sym, ap, ◌∙◌, append_assoc, length-drop, arith}
use mathlib.Core.List.{append-nil}
use Rattle.std.specs.Prelude.{if◌then◌else◌, nat_le, IfOk, Result, Ok, Err}
use Rattle.std.specs.Option.{option_map_or}
use Rattle.std.proofs.lemmas.Bool.{leb-true}
use Rattle.xt_isa.specs.declared.Insn.{Insn}
use Rattle.xt_isa.specs.Spelling.{within}
use Rattle.xt_map.specs.declared.segment.Segment.{Segment}
use Rattle.xt_image.specs.declared.image.Image.{Image}
use Rattle.xt_disasm.specs.Listing.{byte_at, front, front_length, wanted_length}
use Rattle.xt_flow.specs.FlowTables.{IsVisited, code_reading, marks_of}
use Rattle.xt_flow.specs.Sources.{IsFlowSource, Reading, data_count, is_gap, lines_of, numbers, source_by, source_line, source_lines, zero_words}
use Rattle.xt_flow.specs.declared.visits.Visited.{Visited}
use Rattle.xt_flow.proofs.Walks.{shown-positive}
use Rattle.xt_flow.proofs.Words.{marks_are_right}

-- each line of a reading shows at least one byte
abbrev pub Shows : Reading → Type 0
Shows r = (a : ℕ) (bytes : List ℕ) → 0 < length bytes → 0 < r.count a bytes

two_or_three : (b : Bool) → 0 < (if b then 2 else 3)
two_or_three true = omega arith
two_or_three false = omega arith

shown_by : (o : Option Insn) (n : ℕ) → 0 < n → 0 < option_map_or (λ i. n) o 1
shown_by None n some = omega arith
shown_by (Some i) n some = some

front_length-positive : (bytes : List ℕ) → 0 < front_length bytes
front_length-positive bytes = shown_by (front bytes) (wanted_length bytes) (two_or_three (within 8 13 (byte_at bytes 0 % 16)))

pub code_shows : (segments : List Segment) (o : Option Visited) → Shows (code_reading segments o)
code_shows segments None = λ a bytes some. front_length-positive bytes
code_shows segments (Some v) = λ a bytes some. shown-positive (marks_of segments v.starts.items v.reads.items) a bytes some

gap_or : (b q : Bool) (z n : ℕ) → (b ≡ true → 8 ≤ z) → 0 < n → 0 < (if b then z else (if q then 4 else n))
gap_or true q z n gap some = (let eight = gap refl in omega arith)
gap_or false true z n gap some = omega arith
gap_or false false z n gap some = some

pub numbers_show : Shows numbers
unfolding data_count
numbers_show a bytes some = gap_or (is_gap bytes) (nat_le 4 (length bytes)) (zero_words bytes) (length bytes) (λ h. leb-true 8 (zero_words bytes) h) some

fewer : (k n : ℕ) (b : ℕ) (bytes : List ℕ) → 0 < k → length (b ∷ bytes) ≤ suc n → length (drop k (b ∷ bytes)) ≤ n
fewer k n b bytes some enough = let len = length-drop k (b ∷ bytes) in omega arith

-- with room for as many lines as there are bytes, more room changes nothing
enough : (r : Reading) → Shows r → (n k : ℕ) (a : ℕ) (bytes : List ℕ) → length bytes ≤ n → length bytes ≤ k → lines_of n r a bytes ≡ lines_of k r a bytes
enough r shows zero zero a [] _ _ = refl
enough r shows zero (suc k) a [] _ _ = refl
enough r shows (suc n) zero a [] _ _ = refl
enough r shows (suc n) (suc k) a [] _ _ = refl
enough r shows zero k a (b ∷ bytes) few _ = absurd (omega arith)
enough r shows (suc n) zero a (b ∷ bytes) _ few = absurd (omega arith)
enough r shows (suc n) (suc k) a (b ∷ bytes) x y =
    let h : ℕ = r.count a (b ∷ bytes) in
    let some : 0 < h = shows a (b ∷ bytes) (omega arith) in
    ap (λ rest. source_line a (r.words a (b ∷ bytes)) ++ rest) (enough r shows n k _ (drop h (b ∷ bytes)) (fewer h n b bytes some x) (fewer h k b bytes some y))

-- the lines of some bytes: their first line, and the lines of the bytes after it
first_of : (r : Reading) → Shows r → (a : ℕ) (bytes : List ℕ) → 0 < length bytes
    → source_lines r a bytes ≡ source_line a (r.words a bytes) ++ source_lines r (a + r.count a bytes) (drop (r.count a bytes) bytes)
unfolding source_lines
first_of r shows a [] some = absurd (omega arith)
first_of r shows a (b ∷ bytes) some =
    let h : ℕ = r.count a (b ∷ bytes) in
    let positive : 0 < h = shows a (b ∷ bytes) some in
    ap (λ rest. source_line a (r.words a (b ∷ bytes)) ++ rest) (enough r shows (length bytes) (length (drop h (b ∷ bytes))) _ (drop h (b ∷ bytes)) (fewer h (length bytes) b bytes positive (omega arith)) (omega arith))

-- a line more: what is printed before, the first line of what is left, and the lines after it
pub one_line_more : (r : Reading) → Shows r → (old new whole : List ℕ) (a n : ℕ) (bytes : List ℕ) → 0 < length bytes → n ≡ r.count a bytes
    → new ≡ old ++ source_line a (r.words a bytes) → old ++ source_lines r a bytes ≡ whole
    → new ++ source_lines r (a + n) (drop n bytes) ≡ whole
one_line_more r shows old new whole a n bytes some is printed so_far =
    ap (λ k. new ++ source_lines r (a + k) (drop k bytes)) is
    ∙ ap (λ t. t ++ source_lines r (a + r.count a bytes) (drop (r.count a bytes) bytes)) printed
    ∙ append_assoc old (source_line a (r.words a bytes)) (source_lines r (a + r.count a bytes) (drop (r.count a bytes) bytes))
    ∙ ap (λ t. old ++ t) (sym (first_of r shows a bytes some))
    ∙ so_far

-- the last line
pub no_line_left : (r : Reading) (old whole : List ℕ) (a : ℕ) (bytes : List ℕ) → length bytes ≡ 0 → old ++ source_lines r a bytes ≡ whole → old ≡ whole
unfolding source_lines
no_line_left r old whole a [] none so_far = sym (append-nil old) ∙ so_far
no_line_left r old whole a (b ∷ bytes) none so_far = absurd (omega arith)

-- the text by the two tables
pub source_is_right : {E : Type 0} (image : Image) (vecbase entry1 : ℕ) (roots : List ℕ) (v : Visited) (text : Result (List ℕ) E) → IsVisited image vecbase entry1 roots v.starts.items v.reads.items
    → IfOk text (λ t. t ≡ source_by (code_reading image.segments (Some v)) image) → IfOk text (λ t. IsFlowSource image vecbase entry1 roots t)
source_is_right image vecbase entry1 roots v (Ok t) visited is =
    (marks_of image.segments v.starts.items v.reads.items, (marks_are_right image vecbase entry1 roots v.starts.items v.reads.items visited, is))
source_is_right image vecbase entry1 roots v (Err e) visited is = tt
