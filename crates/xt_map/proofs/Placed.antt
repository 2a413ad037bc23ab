-- Segments that stand apart: at most one has a byte at an address.
use Rattle.std.proofs.Common.{◌≡◌, ℕ, zero, suc, ◌+◌, ◌-◌, ◌<◌, ◌≤◌, Bool, true, false, ◌&&◌, ◌↔◌, List, [], ◌∷◌, length, get_or, take, Some, None, ◌⊎◌, ⊎_elim, refl, sym, ap, ◌∙◌, arith, find, min, max}
use Rattle.std.specs.Prelude.{All, IsTrue, nat_lt, nat_le}
use Rattle.std.specs.List.{list_any}
use Rattle.std.proofs.lemmas.Bool.{and_parts, and_from, cases_order, cases_lt}
use Rattle.std.proofs.lemmas.List.{get_or-take, get_or_default}
use Rattle.std.proofs.Math.ListN.{length-take}
use Rattle.std.proofs.lemmas.List.Folds.{list_any_none, list_any_at}
use Rattle.std.proofs.lemmas.Bool.Decides.{nat_tests}
use Rattle.xt_map.specs.declared.segment.Segment.{Segment}
use Rattle.xt_map.specs.Memory.{holds_address, is_loaded}
use Rattle.xt_map.specs.Placing.{IsPlaced, do_overlap, is_well_placed}

-- ---- a byte at an address

pub record Holds (a : ℕ) (s : Segment) : Type 0 where
  pub loaded : is_loaded s ≡ true
  pub begins : s.addr ≤ a
  pub ends : a - s.addr < length s.bytes

at_least : (a b : ℕ) → nat_le a b ≡ true → a ≤ b
at_least a b h = grind (arith, nat_tests)

is_at_least : (a b : ℕ) → a ≤ b → nat_le a b ≡ true
is_at_least a b h = grind (arith, nat_tests)

below : (a b : ℕ) → nat_lt a b ≡ true → a < b
below a b h = grind (arith, nat_tests)

is_below : (a b : ℕ) → a < b → nat_lt a b ≡ true
is_below a b h = grind (arith, nat_tests)

pub holds_parts : (a : ℕ) (s : Segment) → holds_address a s ≡ true → Holds a s
holds_parts a s h =
    let (loaded, place) = and_parts (is_loaded s) (nat_le s.addr a && nat_lt (a - s.addr) (length s.bytes)) h in
    let (begins, ends) = and_parts (nat_le s.addr a) (nat_lt (a - s.addr) (length s.bytes)) place in
    record { loaded = loaded; begins = at_least _ _ begins; ends = below _ _ ends }

pub holds_from : (a : ℕ) (s : Segment) → Holds a s → holds_address a s ≡ true
holds_from a s h =
    and_from (is_loaded s) (nat_le s.addr a && nat_lt (a - s.addr) (length s.bytes)) h.loaded
    (and_from (nat_le s.addr a) (nat_lt (a - s.addr) (length s.bytes)) (is_at_least _ _ h.begins) (is_below _ _ h.ends))

-- ---- two segments at one address

shared : (a m b n c : ℕ) → a ≤ c → c - a < m → b ≤ c → c - b < n → max a b < min (a + m) (b + n)
shared a m b n c p q r s = omega arith

pub overlap_at : (a : ℕ) (s t : Segment) → Holds a s → Holds a t → do_overlap s t ≡ true
overlap_at a s t h k =
    and_from (is_loaded s && is_loaded t) (nat_lt (max s.addr t.addr) (min (s.addr + length s.bytes) (t.addr + length t.bytes)))
    (and_from (is_loaded s) (is_loaded t) h.loaded k.loaded)
    (is_below _ _ (shared s.addr (length s.bytes) t.addr (length t.bytes) a h.begins h.ends k.begins k.ends))

shared_at : (a m b n : ℕ) → max a b < min (a + m) (b + n) → (a ≤ max a b) × (max a b - a < m) × (b ≤ max a b) × (max a b - b < n)
shared_at a m b n h = (omega arith, omega arith, omega arith, omega arith)

pub at_overlap : (s t : Segment) → do_overlap s t ≡ true → Holds (max s.addr t.addr) s × Holds (max s.addr t.addr) t
at_overlap s t h =
    let (loaded, lt) = and_parts (is_loaded s && is_loaded t) (nat_lt (max s.addr t.addr) (min (s.addr + length s.bytes) (t.addr + length t.bytes))) h in
    let (one, other) = and_parts (is_loaded s) (is_loaded t) loaded in
    let (p, q, r, u) = shared_at s.addr (length s.bytes) t.addr (length t.bytes) (below _ _ lt) in
    (record { loaded = one; begins = p; ends = q }, record { loaded = other; begins = r; ends = u })

pub overlap_is_shared : (s t : Segment) → (do_overlap s t ≡ true) ↔ ((a : ℕ) × ((holds_address a s ≡ true) × (holds_address a t ≡ true)))
overlap_is_shared s t = (
  λ h. (max s.addr t.addr, (holds_from _ s (at_overlap s t h).0, holds_from _ t (at_overlap s t h).1)),
  λ h. overlap_at h.0 s t (holds_parts h.0 s h.1.0) (holds_parts h.0 t h.1.1),
)

not_both : {A : Type 0} (b : Bool) → b ≡ true → b ≡ false → A
not_both b h k = absurd cc

pub only_one : (segments : List Segment) (a i j : ℕ) (d : Segment) → IsPlaced segments → i < length segments → j < length segments
    → Holds a (get_or segments i d) → Holds a (get_or segments j d) → i ≡ j
only_one segments a i j d placed li lj h k =
    ⊎_elim (λ (e : i ≡ j). e)
    (λ (o : (i < j) ⊎ (j < i)). ⊎_elim (λ (lt : i < j). not_both _ (overlap_at a (get_or segments i d) (get_or segments j d) h k) (placed.apart i j d lt lj))
    (λ (lt : j < i). not_both _ (overlap_at a (get_or segments j d) (get_or segments i d) k h) (placed.apart j i d lt li)) o) (cases_order i j)

-- ---- looking for the first

not_first : (b : Bool) (k : ℕ) → (b ≡ true → 0 ≡ suc k) → b ≡ false
not_first false k h = refl
not_first true k h = absurd (let e : 0 ≡ suc k = h refl in omega arith)

is_false : (b : Bool) → (b ≡ true → ⊥) → b ≡ false
is_false false h = refl
is_false true h = absurd (h refl)

pub find_only : {X : Type 0} (p : X → Bool) (xs : List X) (k : ℕ) (d : X) → k < length xs → p (get_or xs k d) ≡ true
    → ((j : ℕ) → j < length xs → p (get_or xs j d) ≡ true → j ≡ k) → find p xs ≡ Some (get_or xs k d)
find_only p [] k d lt h only = absurd (omega arith)
find_only p (x ∷ xs) zero d lt h only = rw h refl
find_only p (x ∷ xs) (suc k) d lt h only =
    let first : p x ≡ false = not_first (p x) k (only 0 (omega arith)) in
    rw first (find_only p xs k d (omega arith) h (λ j l q. (let e : suc j ≡ suc k = only (suc j) (omega arith) q in omega arith)))

pub find_none : {X : Type 0} (p : X → Bool) (xs : List X) (d : X) → ((j : ℕ) → j < length xs → p (get_or xs j d) ≡ true → ⊥) → find p xs ≡ None
find_none p [] d h = refl
find_none p (x ∷ xs) d h =
    let first : p x ≡ false = is_false (p x) (h 0 (omega arith)) in
    rw first (find_none p xs d (λ j l q. h (suc j) (omega arith) q))

-- ---- the test of the condition

-- an element that is there is so for any default
same_at : (segments : List Segment) (n : ℕ) (s d : Segment) → n < length segments → s ≡ get_or segments n s → s ≡ get_or segments n d
same_at segments n s d lt is = is ∙ get_or_default segments n s d lt

before : (n : ℕ) (segments : List Segment) (k : ℕ) → k < length (take n segments) → k < n
before n segments k h = omega (arith, length-take n segments)

in_take : (n : ℕ) (segments : List Segment) (k : ℕ) → k < n → n < length segments → k < length (take n segments)
in_take n segments k h l = omega (arith, length-take n segments)

pub refused : {P : Type 0} → (P → ⊥) → (IsTrue false ↔ P)
refused h = (λ t. absurd cc, λ p. absurd (h p))

pub not_placed : (segments : List Segment) (n : ℕ) (s : Segment) → n < length segments → s ≡ get_or segments n s → is_well_placed s ≡ false → IsPlaced segments → ⊥
not_placed segments n s lt is fails p = not_both _ (p.placed n s lt) (ap is_well_placed (sym is) ∙ fails)

pub none_before : (segments : List Segment) (n : ℕ) (s : Segment) → n < length segments → s ≡ get_or segments n s → IsPlaced segments
    → All (λ t. do_overlap t s ≡ false) (take n segments)
none_before segments n s lt is p k d h =
    let kn : k < n = before n segments k h in
    ap (λ t. do_overlap t s) (get_or-take n segments k d kn) ∙ ap (do_overlap (get_or segments k d)) (same_at segments n s d lt is) ∙ p.apart k n d kn lt

pub clashes : (segments : List Segment) (n : ℕ) (s : Segment) → n < length segments → s ≡ get_or segments n s
    → list_any (λ t. do_overlap t s) (take n segments) ≡ true → IsPlaced segments → ⊥
clashes segments n s lt is found p = not_both _ found (list_any_none (λ t. do_overlap t s) (take n segments) (none_before segments n s lt is p))

-- the invariant with one more segment
pub record Upto (segments : List Segment) (n : ℕ) : Type 0 where
  pub placed : (k : ℕ) (d : Segment) → k < n → is_well_placed (get_or segments k d) ≡ true
  pub apart : (i j : ℕ) (d : Segment) → i < j → j < n → do_overlap (get_or segments i d) (get_or segments j d) ≡ false

pub placed_more : (segments : List Segment) (n : ℕ) (s : Segment) → n < length segments → s ≡ get_or segments n s → is_well_placed s ≡ true
    → list_any (λ t. do_overlap t s) (take n segments) ≡ false → Upto segments n → Upto segments (n + 1)
placed_more segments n s lt is well none so_far = record {
  placed = λ k d h. ⊎_elim (λ (i : k < n). so_far.placed k d i)
      (λ (i : n ≤ k). let e : k ≡ n = omega arith in ap (λ m. is_well_placed (get_or segments m d)) e ∙ ap is_well_placed (sym (same_at segments n s d lt is)) ∙ well) (cases_lt k n);
  apart = λ i j d l h. ⊎_elim (λ (k : j < n). so_far.apart i j d l k)
      (λ (k : n ≤ j).
      let e : j ≡ n = omega arith in
      let li : i < n = omega arith in
      ap (λ m. do_overlap (get_or segments i d) (get_or segments m d)) e
      ∙ ap (do_overlap (get_or segments i d)) (sym (same_at segments n s d lt is))
      ∙ is_false (do_overlap (get_or segments i d) s)
      (λ q. not_both _ (list_any_at (λ t. do_overlap t s) (take n segments) i d (in_take n segments i li lt) (ap (λ t. do_overlap t s) (get_or-take n segments i d li) ∙ q)) none)) (cases_lt j n);
}
