-- What is printed for each of a range of numbers, one after another.
use Rattle.std.proofs.Common.{◌≡◌, ℕ, suc, ◌+◌, ◌-◌, ◌<◌, Bool, true, false, List, ◌∷◌, ◌++◌, refl, sym, ap, ◌∙◌, arith, append_assoc}
use Rattle.std.specs.Prelude.{filter}
use Rattle.std.specs.List.{flat_map, range_with_len}
use Rattle.xt_isa.specs.Spelling.{can_read}
use Rattle.xt_debug.specs.Printed.{specials, windows}

-- the numbers from one on to before an end
abbrev pub from_to : ℕ → ℕ → List ℕ
from_to n end = range_with_len n (end - n)

first_of_range : (n end : ℕ) → n < end → from_to n end ≡ n ∷ from_to (n + 1) end
first_of_range n end below =
    let more : end - n ≡ suc (end - (n + 1)) = omega (arith, below) in
    ap (range_with_len n) more

-- one of them more, after what was printed
pub one_more_of : (f : ℕ → List ℕ) (n end : ℕ) (done new : List ℕ) → n < end → new ≡ done ++ f n → new ++ flat_map f (from_to (n + 1) end) ≡ done ++ flat_map f (from_to n end)
one_more_of f n end done new below made =
    ap (λ t. t ++ flat_map f (from_to (n + 1) end)) made
    ∙ append_assoc done (f n) (flat_map f (from_to (n + 1) end))
    ∙ ap (λ l. done ++ flat_map f l) (sym (first_of_range n end below))

-- the same of those that pass a test
pub one_more_passes : (f : ℕ → List ℕ) (test : ℕ → Bool) (n end : ℕ) (done new : List ℕ) → n < end → test n ≡ true → new ≡ done ++ f n
    → new ++ flat_map f (filter test (from_to (n + 1) end)) ≡ done ++ flat_map f (filter test (from_to n end))
one_more_passes f test n end done new below passes made =
    let rest = filter test (from_to (n + 1) end) in
    let first : filter test (n ∷ from_to (n + 1) end) ≡ n ∷ rest = rw passes refl in
    ap (λ t. t ++ flat_map f rest) made
    ∙ append_assoc done (f n) (flat_map f rest)
    ∙ ap (λ l. done ++ flat_map f l) (sym first ∙ ap (filter test) (sym (first_of_range n end below)))

pub one_more_fails : (f : ℕ → List ℕ) (test : ℕ → Bool) (n end : ℕ) (done : List ℕ) → n < end → test n ≡ false
    → done ++ flat_map f (filter test (from_to (n + 1) end)) ≡ done ++ flat_map f (filter test (from_to n end))
one_more_fails f test n end done below fails =
    let rest = filter test (from_to (n + 1) end) in
    let first : filter test (n ∷ from_to (n + 1) end) ≡ rest = rw fails refl in
    ap (λ l. done ++ flat_map f l) (sym first ∙ ap (filter test) (sym (first_of_range n end below)))

pub all_windows : from_to 0 16 ≡ windows
unfolding windows
all_windows = refl

pub all_specials : filter can_read (from_to 0 256) ≡ specials
unfolding specials
all_specials = refl
