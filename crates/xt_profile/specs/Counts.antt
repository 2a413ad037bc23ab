-- How many steps have each key ('profile').
use Rattle.std.specs.Prelude.{ℕ, suc, ◌+◌, Bool, if◌then◌else◌, List, [], ◌∷◌, map}
use Rattle.std.specs.declared.cmp.Ordering.{Ordering}
use Rattle.std.specs.Ordering.{is_eq, match_ordering, nat_cmp}
use Rattle.std.specs.Cmp.Lexicographic.{slice_cmp}
use Rattle.xt_profile.specs.declared.profiles.ProfileLine.{ProfileLine}

-- by the first number in which two lists differ; of two that begin alike the shorter comes first
abbrev pub compare : List ℕ → List ℕ → Ordering
compare k q = slice_cmp nat_cmp k q

abbrev pub is_same : List ℕ → List ℕ → Bool
is_same k q = is_eq (compare k q)

-- how many of these keys are k
abbrev pub count_of : List ℕ → List (List ℕ) → ℕ
count_of k [] = 0
count_of k (q ∷ ks) = if is_same k q then suc (count_of k ks) else count_of k ks

-- each key once, in order
abbrev pub insert : List ℕ → List (List ℕ) → List (List ℕ)
insert k [] = k ∷ []
insert k (q ∷ qs) = match_ordering (compare k q) (k ∷ q ∷ qs) (q ∷ qs) (q ∷ insert k qs)

abbrev pub in_order : List (List ℕ) → List (List ℕ)
in_order [] = []
in_order (k ∷ ks) = insert k (in_order ks)

abbrev pub line : List (List ℕ) → List ℕ → ProfileLine
line ks k = record { key = k; count = count_of k ks }

abbrev pub lines : List (List ℕ) → List ProfileLine
lines ks = map (line ks) (in_order ks)

-- all counts together
abbrev pub total : List ProfileLine → ℕ
total [] = 0
total (l ∷ ls) = l.count + total ls
