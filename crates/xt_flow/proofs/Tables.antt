-- What a table says of an address.
use Rattle.std.proofs.Common.{◌≡◌, ℕ, zero, suc, ◌+◌, ◌-◌, ◌<◌, ◌≤◌, Bool, true, false, ◌&&◌, List, [], ◌∷◌, length, get_or, set, replicate, ◌⊎◌, inl, inr, ⊎_elim, refl, sym, ap, ◌∙◌, arith}
use Rattle.std.specs.Prelude.{nat_le, if◌then◌else◌}
use Rattle.std.proofs.lemmas.Bool.{and_from, and_parts, and_right, le-leb, leb-true}
use Rattle.std.proofs.lemmas.List.{get_or-set_same, length-replicate, length-set}
use Rattle.xt_flow.specs.FlowTables.{first_place, is_marked, no_marks, with_mark}

-- a mark stands at the first place or behind it
pub marked_high : (table : List Bool) (a : ℕ) → is_marked table a ≡ true → first_place ≤ a
unfolding is_marked
marked_high table a h = leb-true first_place a (and_parts (nat_le first_place a) (get_or table (a - first_place) false) h).0

-- ---- a mark more

pub length-with_mark : (table : List Bool) (a : ℕ) → length (with_mark table a) ≡ length table
unfolding with_mark
length-with_mark table a = elim (nat_le first_place a) as (λ b. length (if b then set table (a - first_place) true else table) ≡ length table) [
  | true ↦ length-set table (a - first_place) true
  | false ↦ refl
]

-- the mark that was set
pub marked_same : (table : List Bool) (a : ℕ) → first_place ≤ a → a < first_place + length table → is_marked (with_mark table a) a ≡ true
unfolding is_marked with_mark
marked_same table a low high =
    let low' : nat_le first_place a ≡ true = le-leb first_place a low in
    let place : a - first_place < length table = omega arith in
    rw low' (get_or-set_same table (a - first_place) true false place)

set_keeps : (table : List Bool) (i j : ℕ) → get_or table j false ≡ true → get_or (set table i true) j false ≡ true
set_keeps [] i j h = absurd cc
set_keeps (x ∷ xs) zero zero h = refl
set_keeps (x ∷ xs) zero (suc j) h = h
set_keeps (x ∷ xs) (suc i) zero h = h
set_keeps (x ∷ xs) (suc i) (suc j) h = set_keeps xs i j h

-- a mark that was there
pub marked_kept : (table : List Bool) (a b : ℕ) → is_marked table b ≡ true → is_marked (with_mark table a) b ≡ true
unfolding is_marked with_mark
marked_kept table a b h =
    elim (nat_le first_place a) as (λ t. (nat_le first_place b && get_or (if t then set table (a - first_place) true else table) (b - first_place) false) ≡ true) [
      | true ↦
          let parts = and_parts (nat_le first_place b) (get_or table (b - first_place) false) h in
          and_from (nat_le first_place b) (get_or (set table (a - first_place) true) (b - first_place) false) parts.0 (set_keeps table (a - first_place) (b - first_place) parts.1)
      | false ↦ h
    ]

set_other : (table : List Bool) (i j : ℕ) → get_or (set table i true) j false ≡ true → (j ≡ i) ⊎ (get_or table j false ≡ true)
set_other [] i j h = inr h
set_other (x ∷ xs) zero zero h = inl refl
set_other (x ∷ xs) zero (suc j) h = inr h
set_other (x ∷ xs) (suc i) zero h = inr h
set_other (x ∷ xs) (suc i) (suc j) h = ⊎_elim (λ (e : j ≡ i). inl (ap suc e)) (λ (k : get_or xs j false ≡ true). inr k) (set_other xs i j h)

-- a mark is the new one, or was there
pub marked_other : (table : List Bool) (a b : ℕ) → is_marked (with_mark table a) b ≡ true → (b ≡ a) ⊎ (is_marked table b ≡ true)
unfolding is_marked with_mark
marked_other table a b =
    elim (nat_le first_place a) as (λ t. nat_le first_place a ≡ t → (nat_le first_place b && get_or (if t then set table (a - first_place) true else table) (b - first_place) false) ≡ true → (b ≡ a) ⊎ ((nat_le first_place b && get_or table (b - first_place) false) ≡ true)) [
      | true ↦ λ low h.
          let parts = and_parts (nat_le first_place b) (get_or (set table (a - first_place) true) (b - first_place) false) h in
          let a_low : first_place ≤ a = leb-true first_place a low in
          let b_low : first_place ≤ b = leb-true first_place b parts.0 in
          ⊎_elim
          (λ (e : b - first_place ≡ a - first_place). inl (omega arith))
          (λ (k : get_or table (b - first_place) false ≡ true). inr (and_from (nat_le first_place b) (get_or table (b - first_place) false) parts.0 k))
          (set_other table (a - first_place) (b - first_place) parts.1)
      | false ↦ λ low h. inr h
    ] refl

none_at : (n i : ℕ) → get_or (replicate n false) i false ≡ false
none_at zero i = refl
none_at (suc n) zero = refl
none_at (suc n) (suc i) = none_at n i

-- no mark to begin with
pub none_marked : (n a : ℕ) → is_marked (no_marks n) a ≡ false
unfolding is_marked no_marks
none_marked n a = and_right (nat_le first_place a) (get_or (replicate n false) (a - first_place) false) (none_at n (a - first_place))

pub length-unmarked : (n : ℕ) → length (no_marks n) ≡ n
unfolding no_marks
length-unmarked n = length-replicate n false

-- ---- how many addresses have no mark

abbrev pub count_free : List Bool → ℕ
count_free [] = 0
count_free (b ∷ bs) = (if b then 0 else 1) + count_free bs

set_counts : (table : List Bool) (i : ℕ) → i < length table → get_or table i false ≡ false → count_free (set table i true) + 1 ≡ count_free table
set_counts [] i lt h = absurd (omega arith)
set_counts (true ∷ bs) zero lt h = absurd cc
set_counts (false ∷ bs) zero lt h = omega arith
set_counts (b ∷ bs) (suc i) lt h = let rest : count_free (set bs i true) + 1 ≡ count_free bs = set_counts bs i (omega arith) h in omega arith

pub count_free-with_mark : (table : List Bool) (a : ℕ) → first_place ≤ a → a < first_place + length table → is_marked table a ≡ false
    → count_free (with_mark table a) + 1 ≡ count_free table
unfolding is_marked with_mark
count_free-with_mark table a low high h =
    let low' : nat_le first_place a ≡ true = le-leb first_place a low in
    let none : get_or table (a - first_place) false ≡ false = sym (ap (λ b. b && get_or table (a - first_place) false) low') ∙ h in
    rw low' (set_counts table (a - first_place) (omega arith) none)
