-- A walk over code, line by line.
use Rattle.std.proofs.Common.{◌≡◌, ℕ, zero, suc, ◌+◌, ◌-◌, ◌<◌, ◌≤◌, Bool, true, false, ◌&&◌, ◌||◌, List, [], ◌∷◌, ◌++◌, length, drop, refl, sym, ap, ◌∙◌, append_assoc, length-drop, arith}
use mathlib.Core.List.{append-nil}
use Rattle.std.specs.Prelude.{if◌then◌else◌, not}
use Rattle.std.proofs.lemmas.Bool.{leb-true}
use Rattle.xt_disasm.specs.Listing.{front_length}
use Rattle.xt_flow.specs.Printing.{Marks, byte_run, first_line, flow_lines, is_byte, is_space, is_word, lines_of, first_line_length, to_next, zero_run}
use Rattle.xt_flow.proofs.Runs.{run_some}

-- a byte that is neither taken nor in a space is printed as such
pub byte_left : (s w z : Bool) → s ≡ false → w ≡ false → z ≡ false → (not (s || w) && not z) ≡ true
byte_left false false false a b c = refl
byte_left true w z a b c = cc
byte_left false true z a b c = cc
byte_left false false true a b c = cc

some_by : (s w z : Bool) (n run_of bytes : ℕ) → (z ≡ true → 0 < run_of) → (s ≡ false → w ≡ false → z ≡ false → 0 < bytes)
    → 0 < (if s then suc n else (if w then 4 else (if z then run_of else bytes)))
some_by true w z n run_of bytes a b = omega arith
some_by false true z n run_of bytes a b = omega arith
some_by false false true n run_of bytes a b = a refl
some_by false false false n run_of bytes a b = b refl refl refl

-- each line shows at least one byte
pub shown-positive : (m : Marks) (a : ℕ) (bytes : List ℕ) → 0 < length bytes → 0 < first_line_length m a bytes
unfolding first_line_length
shown-positive m a bytes some =
    some_by (m.starts a) (is_word m a bytes) (is_space m a bytes) (to_next m.starts (a + 1) (front_length bytes - 1)) (zero_run m a bytes) (byte_run m a bytes)
    (λ z. (let four : 4 ≤ zero_run m a bytes = leb-true 4 (zero_run m a bytes) z in omega arith))
    (λ s w z. run_some (is_byte m) a 16 bytes (omega arith) some (byte_left (m.starts a) (is_word m a bytes) (is_space m a bytes) s w z))

fewer : (k n : ℕ) (b : ℕ) (bytes : List ℕ) → 0 < k → length (b ∷ bytes) ≤ suc n → length (drop k (b ∷ bytes)) ≤ n
fewer k n b bytes some enough = let len = length-drop k (b ∷ bytes) in omega arith

-- with room for as many lines as there are bytes, more room changes nothing
enough : (n k : ℕ) (m : Marks) (a : ℕ) (bytes : List ℕ) → length bytes ≤ n → length bytes ≤ k → lines_of n m a bytes ≡ lines_of k m a bytes
enough zero zero m a [] _ _ = refl
enough zero (suc k) m a [] _ _ = refl
enough (suc n) zero m a [] _ _ = refl
enough (suc n) (suc k) m a [] _ _ = refl
enough zero k m a (b ∷ bytes) few _ = absurd (omega arith)
enough (suc n) zero m a (b ∷ bytes) _ few = absurd (omega arith)
enough (suc n) (suc k) m a (b ∷ bytes) x y =
    let h : ℕ = first_line_length m a (b ∷ bytes) in
    let some : 0 < h = shown-positive m a (b ∷ bytes) (omega arith) in
    ap (λ rest. first_line m a (b ∷ bytes) ++ rest) (enough n k m _ (drop h (b ∷ bytes)) (fewer h n b bytes some x) (fewer h k b bytes some y))

-- the lines of some bytes: their first line, and the lines of the bytes after it
first_of : (m : Marks) (a : ℕ) (bytes : List ℕ) → 0 < length bytes
    → flow_lines m a bytes ≡ first_line m a bytes ++ flow_lines m (a + first_line_length m a bytes) (drop (first_line_length m a bytes) bytes)
unfolding flow_lines
first_of m a [] some = absurd (omega arith)
first_of m a (b ∷ bytes) some =
    let h : ℕ = first_line_length m a (b ∷ bytes) in
    let positive : 0 < h = shown-positive m a (b ∷ bytes) some in
    ap (λ rest. first_line m a (b ∷ bytes) ++ rest) (enough (length bytes) (length (drop h (b ∷ bytes))) m _ (drop h (b ∷ bytes)) (fewer h (length bytes) b bytes positive (omega arith)) (omega arith))

-- a line more: what is printed before, the first line of what is left, and the lines after it
pub one_line_more : (m : Marks) (old new whole : List ℕ) (a n : ℕ) (bytes : List ℕ) → 0 < length bytes → n ≡ first_line_length m a bytes
    → new ≡ old ++ first_line m a bytes → old ++ flow_lines m a bytes ≡ whole
    → new ++ flow_lines m (a + n) (drop n bytes) ≡ whole
one_line_more m old new whole a n bytes some is printed so_far =
    ap (λ k. new ++ flow_lines m (a + k) (drop k bytes)) is
    ∙ ap (λ t. t ++ flow_lines m (a + first_line_length m a bytes) (drop (first_line_length m a bytes) bytes)) printed
    ∙ append_assoc old (first_line m a bytes) (flow_lines m (a + first_line_length m a bytes) (drop (first_line_length m a bytes) bytes))
    ∙ ap (λ t. old ++ t) (sym (first_of m a bytes some))
    ∙ so_far

-- the last line
pub no_line_left : (m : Marks) (old whole : List ℕ) (a : ℕ) (bytes : List ℕ) → length bytes ≡ 0 → old ++ flow_lines m a bytes ≡ whole → old ≡ whole
unfolding flow_lines
no_line_left m old whole a [] none so_far = sym (append-nil old) ∙ so_far
no_line_left m old whole a (b ∷ bytes) none so_far = absurd (omega arith)
