-- Reading program headers one after another, as a loop does.
use Rattle.std.proofs.Common.{◌≡◌, ℕ, zero, suc, ◌-◌, ◌+◌, ◌≤◌, ◌<◌, List, [], ◌∷◌, ◌++◌, length, refl, sym, ap, ◌∙◌, append_assoc, arith}
use Rattle.std.proofs.lemmas.List.{append-nil}
use Rattle.xt_elf.specs.declared.header.Header.{Header}
use Rattle.xt_elf.specs.Headers.{header_at, headers_from}

pub goes_on : (found : List Header) (count i : ℕ) (bytes : List ℕ) (place : ℕ) (total : List Header) → i < count
    → found ++ headers_from (count - i) bytes place ≡ total → (found ++ header_at bytes place ∷ []) ++ headers_from (count - (i + 1)) bytes (place + 32) ≡ total
unfolding headers_from
goes_on found count i bytes place total lt so_far =
    let k : count - i ≡ suc (count - (i + 1)) = omega arith in
    let one : headers_from (count - i) bytes place ≡ header_at bytes place ∷ headers_from (count - (i + 1)) bytes (place + 32) = rw k refl in
    append_assoc found (header_at bytes place ∷ []) _ ∙ ap (λ l. found ++ l) (sym one) ∙ so_far

pub is_done : (found : List Header) (count i : ℕ) (bytes : List ℕ) (place : ℕ) (total : List Header) → count ≤ i
    → found ++ headers_from (count - i) bytes place ≡ total → found ≡ total
unfolding headers_from
is_done found count i bytes place total le so_far =
    let k : count - i ≡ 0 = omega arith in
    let none : headers_from (count - i) bytes place ≡ [] = rw k refl in
    sym (append-nil found) ∙ ap (λ l. found ++ l) (sym none) ∙ so_far

pub length-headers_from : (n : ℕ) (bytes : List ℕ) (place : ℕ) → length (headers_from n bytes place) ≡ n
unfolding headers_from
length-headers_from zero bytes place = refl
length-headers_from (suc n) bytes place = ap suc (length-headers_from n bytes (place + 32))
