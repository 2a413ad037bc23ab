-- A walk over code, line by line.
use Rattle.std.proofs.Common.{◌≡◌, ℕ, zero, suc, ◌+◌, ◌%◌, ◌^◌, ◌<◌, ◌≤◌, List, [], ◌∷◌, ◌++◌, length, drop, Option, Some, None, refl, sym, ap, ◌∙◌, append_assoc, length-drop, arith}
use mathlib.Core.List.{append-nil}
use Rattle.std.specs.Prelude.{if◌then◌else◌, Bool, true, false}
use Rattle.std.specs.Option.{option_map_or}
use Rattle.xt_isa.specs.declared.Insn.{Insn}
use Rattle.xt_isa.specs.Spelling.{within}
use Rattle.xt_disasm.specs.Listing.{byte_at, code_line, code_lines, front, front_length, lines_of, wanted_length}

-- each line shows at least one byte
two_or_three : (b : Bool) → 0 < (if b then 2 else 3)
two_or_three true = omega arith
two_or_three false = omega arith

shown_by : (o : Option Insn) (n : ℕ) → 0 < n → 0 < option_map_or (λ i. n) o 1
shown_by None n some = omega arith
shown_by (Some i) n some = some

front_length-positive : (bytes : List ℕ) → 0 < front_length bytes
front_length-positive bytes = shown_by (front bytes) (wanted_length bytes) (two_or_three (within 8 13 (byte_at bytes 0 % 16)))

fewer : (k n : ℕ) (b : ℕ) (bytes : List ℕ) → 0 < k → length (b ∷ bytes) ≤ suc n → length (drop k (b ∷ bytes)) ≤ n
fewer k n b bytes some enough = let len = length-drop k (b ∷ bytes) in omega arith

-- with room for as many lines as there are bytes, more room changes nothing
enough : (n m pc : ℕ) (bytes : List ℕ) → length bytes ≤ n → length bytes ≤ m → lines_of n pc bytes ≡ lines_of m pc bytes
enough zero zero pc [] _ _ = refl
enough zero (suc m) pc [] _ _ = refl
enough (suc n) zero pc [] _ _ = refl
enough (suc n) (suc m) pc [] _ _ = refl
enough zero m pc (b ∷ bytes) few _ = absurd (omega arith)
enough (suc n) zero pc (b ∷ bytes) _ few = absurd (omega arith)
enough (suc n) (suc m) pc (b ∷ bytes) a c =
    let k : ℕ = front_length (b ∷ bytes) in
    let some : 0 < k = front_length-positive (b ∷ bytes) in
    ap (λ rest. code_line pc (b ∷ bytes) ++ rest) (enough n m _ (drop k (b ∷ bytes)) (fewer k n b bytes some a) (fewer k m b bytes some c))

-- the lines of some bytes: their first line, and the lines of the bytes after it
pub first_line : (pc : ℕ) (bytes : List ℕ) → 0 < length bytes
    → code_lines pc bytes ≡ code_line pc bytes ++ code_lines ((pc + front_length bytes) % 2 ^ 32) (drop (front_length bytes) bytes)
unfolding code_lines
first_line pc [] some = absurd (omega arith)
first_line pc (b ∷ bytes) some =
    let k : ℕ = front_length (b ∷ bytes) in
    let shown : 0 < k = front_length-positive (b ∷ bytes) in
    ap (λ rest. code_line pc (b ∷ bytes) ++ rest) (enough (length bytes) (length (drop k (b ∷ bytes))) _ (drop k (b ∷ bytes)) (fewer k (length bytes) b bytes shown (omega arith)) (omega arith))

-- a line more: what is printed before, the first line of what is left, and the lines after it
pub one_line_more : (old new whole : List ℕ) (pc n : ℕ) (bytes : List ℕ) → 0 < length bytes → n ≡ front_length bytes
    → new ≡ old ++ code_line pc bytes → old ++ code_lines pc bytes ≡ whole
    → new ++ code_lines ((pc + n) % 2 ^ 32) (drop n bytes) ≡ whole
one_line_more old new whole pc n bytes some shown printed so_far =
    ap (λ k. new ++ code_lines ((pc + k) % 2 ^ 32) (drop k bytes)) shown
    ∙ ap (λ t. t ++ code_lines ((pc + front_length bytes) % 2 ^ 32) (drop (front_length bytes) bytes)) printed
    ∙ append_assoc old (code_line pc bytes) (code_lines ((pc + front_length bytes) % 2 ^ 32) (drop (front_length bytes) bytes))
    ∙ ap (λ t. old ++ t) (sym (first_line pc bytes some))
    ∙ so_far

-- the last line
pub no_line_left : (old whole : List ℕ) (pc : ℕ) (bytes : List ℕ) → length bytes ≡ 0 → old ++ code_lines pc bytes ≡ whole → old ≡ whole
unfolding code_lines
no_line_left old whole pc [] none so_far = sym (append-nil old) ∙ so_far
no_line_left old whole pc (b ∷ bytes) none so_far = absurd (omega arith)
