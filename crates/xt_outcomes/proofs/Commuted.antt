-- Turns of two cores that meet nothing of one another may come in either order.
use Rattle.std.proofs.Common.{◌≡◌, ◌≢◌, ℕ, zero, suc, ◌+◌, ◌/◌, ◌%◌, ◌<◌, ◌≤◌, Bool, true, false, Option, Some, None, List, slice_get, inl, inr, ⊎_elim, refl, sym, ap, ◌∙◌, subst, arith, eqb-true, ne_eqb}
use Rattle.std.specs.Prelude.{◌⊎◌, ◌==◌, ◌&&◌, not, if◌then◌else◌}
use Rattle.std.proofs.lemmas.Bool.{and_parts, cases_eq, cases_lt, or_cases}
use Rattle.xt_map.specs.declared.access.Access.{Access}
use Rattle.xt_map.specs.declared.access.Kind.{Kind}
use Rattle.xt_map.specs.declared.contents.MemoryContents.{MemoryContents}
use Rattle.xt_map.specs.Memory.{HasSizes}
use Rattle.xt_map.specs.Regions.{is_mapped, is_memory, is_size, is_uart, kind_fits, region_of, uart_status, uart_takes, uart_transmit}
use Rattle.xt_map.specs.Touching.{is_load}
use Rattle.xt_map.proofs.Alike.{three_sizes}
use Rattle.xt_map.proofs.Stored.{access_keeps_sizes}
use Rattle.xt_search.specs.Apart.{AreApart}
use Rattle.xt_search.proofs.Commuting.{accesses_commute, replies_stay}
use Rattle.xt_trace.specs.Worlds.{answer, memory_left}
use Rattle.xt_exec.specs.Chips.{processor}
use Rattle.xt_exec.specs.TurnLaws.{IsServed}
use Rattle.xt_exec.specs.State.{State}
use Rattle.xt_exec.specs.Turn.{demand}
use Rattle.xt_exec.proofs.Served.{demand_served}
use Rattle.xt_outcomes.specs.Dead.{side_forgotten}
use Rattle.xt_outcomes.specs.Nexts.{next_bars, side_next, spot_next}
use Rattle.xt_outcomes.specs.Places.{is_allowed, is_local, is_own, is_own_access, is_told, may_access, may_come, or_met, place_of, slot_of}
use Rattle.xt_outcomes.specs.SpotRaces.{next_of}
use Rattle.xt_outcomes.specs.Spots.{Side, Spot, memory_given, side_of, side_past}
use Rattle.xt_outcomes.specs.declared.places.Place.{Place}
use Rattle.xt_outcomes.specs.declared.places.Place.TheVariants as place

-- ---- accesses by their places

-- an access lies in one word
in_word : (a : Access) → is_mapped a ≡ true → a.addr % 4 + a.size ≤ 4
in_word a h =
    let p = and_parts (is_size a.size) _ h in
    let q = (and_parts (kind_fits a.kind a.size) _ p.1).1 in
    ⊎_elim
    (λ (m : (is_memory (region_of a.addr) && a.addr % a.size == 0) ≡ true).
    let e : a.addr % a.size ≡ 0 = eqb-true (a.addr % a.size) 0 (and_parts (is_memory (region_of a.addr)) _ m).1 in
    by_size a.size (three_sizes a.size p.0) e)
    (λ (u : (is_uart a.addr && uart_takes a.kind) ≡ true).
    let s : a.size ≤ 4 = small a.size (three_sizes a.size p.0) in
    ⊎_elim
    (λ (t : (a.addr == uart_transmit) ≡ true). let i : a.addr ≡ 0x3FF40000 = eqb-true a.addr uart_transmit t in omega arith)
    (λ (t : (a.addr == uart_status) ≡ true). let i : a.addr ≡ 0x3FF4001C = eqb-true a.addr uart_status t in omega arith)
    (or_cases (a.addr == uart_transmit) (a.addr == uart_status) (and_parts (is_uart a.addr) _ u).0))
    (or_cases (is_memory (region_of a.addr) && a.addr % a.size == 0) (is_uart a.addr && uart_takes a.kind) q)
  where
    small : (n : ℕ) → (n ≡ 1) ⊎ ((n ≡ 2) ⊎ (n ≡ 4)) → n ≤ 4
    small n s = ⊎_elim (λ (e : n ≡ 1). omega arith) (λ (r : (n ≡ 2) ⊎ (n ≡ 4)). ⊎_elim (λ (e : n ≡ 2). omega arith) (λ (e : n ≡ 4). omega arith) r) s

    by_size : (n : ℕ) → (n ≡ 1) ⊎ ((n ≡ 2) ⊎ (n ≡ 4)) → a.addr % n ≡ 0 → a.addr % 4 + n ≤ 4
    by_size n s e = ⊎_elim
        (λ (i : n ≡ 1). omega arith)
        (λ (r : (n ≡ 2) ⊎ (n ≡ 4)). ⊎_elim
        (λ (i : n ≡ 2). let f : a.addr % 2 ≡ 0 = subst (λ (k : ℕ). a.addr % k ≡ 0) i e in omega arith)
        (λ (i : n ≡ 4). let f : a.addr % 4 ≡ 0 = subst (λ (k : ℕ). a.addr % k ≡ 0) i e in omega arith) r)
        s

apart_words : (a b : Access) → is_mapped a ≡ true → is_mapped b ≡ true → a.addr / 4 ≢ b.addr / 4 → AreApart a b
apart_words a b ma mb ne =
    let other : ¬ (a.addr / 4 ≡ b.addr / 4) = ne in
    let x : a.addr % 4 + a.size ≤ 4 = in_word a ma in
    let y : b.addr % 4 + b.size ≤ 4 = in_word b mb in
    inl (⊎_elim
    (λ (l : a.addr / 4 < b.addr / 4). inl (omega arith))
    (λ (r : b.addr / 4 ≤ a.addr / 4). inr (omega arith))
    (cases_lt (a.addr / 4) (b.addr / 4)))

apart_slots : (a b : Access) → is_mapped a ≡ true → is_mapped b ≡ true → slot_of a ≢ slot_of b → AreApart a b
apart_slots a b ma mb ne = apart_words a b ma mb (λ e. ne (ap (λ (w : ℕ). w % 131072) e))

-- at one place both load
positive : (c : ℕ) → not (c == 0) ≡ true → 0 < c
positive zero h = absurd cc
positive (suc c) h = omega arith

both_load : (p : Place) (c d : ℕ) (k j : Kind) → c < 2 → d < 2 → c ≢ d → is_own c p k ≡ true → may_come d p j ≡ true → (is_load k ≡ true) × (is_load j ≡ true)
both_load place.Free c d k j cs ds ne own may = absurd cc
both_load place.Of0 c d k j cs ds ne own may =
    let other : ¬ (c ≡ d) = ne in
    let e : c ≡ 0 = eqb-true c 0 own in
    let f : d ≡ 0 = eqb-true d 0 may in
    absurd (omega arith)
both_load place.Of1 c d k j cs ds ne own may =
    let other : ¬ (c ≡ d) = ne in
    let e : 0 < c = positive c own in
    let f : 0 < d = positive d may in
    absurd (omega arith)
both_load place.Read c d k j cs ds ne own may = (own, may)
both_load place.Met c d k j cs ds ne own may = absurd cc

-- an access of its own comes only where it is told of
own_comes : (p : Place) (c : ℕ) (k : Kind) → is_own c p k ≡ true → may_come c p k ≡ true
own_comes place.Free c k h = refl
own_comes place.Of0 c k h = h
own_comes place.Of1 c k h = h
own_comes place.Read c k h = h
own_comes place.Met c k h = refl

-- ---- turns by their accesses

abbrev pub TurnsApart : Option Access → Option Access → Type 0
TurnsApart None y = Unit {0}
TurnsApart (Some a) None = Unit {0}
TurnsApart (Some a) (Some b) = (is_mapped a ≡ true) × (is_mapped b ≡ true) × AreApart a b

pub turned_apart : (a b : Access) → AreApart a b → AreApart b a
turned_apart a b h = ⊎_elim
    (λ (d : (a.addr + a.size ≤ b.addr) ⊎ (b.addr + b.size ≤ a.addr)).
    inl (⊎_elim (λ (l : a.addr + a.size ≤ b.addr). inr l) (λ (r : b.addr + b.size ≤ a.addr). inl r) d))
    (λ (l : (is_load a.kind ≡ true) × (is_load b.kind ≡ true)). inr (l.1, l.0))
    h

turns_turned : (x y : Option Access) → TurnsApart x y → TurnsApart y x
turns_turned None None h = tt
turns_turned None (Some b) h = tt
turns_turned (Some a) None h = tt
turns_turned (Some a) (Some b) h = (h.1, h.0, turned_apart a b h.2)

answer_stays : (x y : Option Access) (m : MemoryContents) → TurnsApart x y → answer y (memory_left x m) ≡ answer y m
answer_stays None y m h = refl
answer_stays (Some a) None m h = refl
answer_stays (Some a) (Some b) m h = replies_stay m a b h.2

memories_swap : (x y : Option Access) (m : MemoryContents) → HasSizes m → TurnsApart x y → memory_left y (memory_left x m) ≡ memory_left x (memory_left y m)
memories_swap None y m s h = refl
memories_swap (Some a) None m s h = refl
memories_swap (Some a) (Some b) m s h = accesses_commute m a b s h.0 h.1 h.2

by_place : (ps : List Place) (c d : ℕ) (a b : Access) → c < 2 → d < 2 → c ≢ d → is_mapped a ≡ true → is_mapped b ≡ true
    → is_own c (place_of ps a) a.kind ≡ true → may_come d (place_of ps b) b.kind ≡ true → AreApart a b
by_place ps c d a b cs ds ne ma mb own may = ⊎_elim
    (λ (e : slot_of a ≡ slot_of b).
    inr (both_load (place_of ps b) c d a.kind b.kind cs ds ne (subst (λ (p : Place). is_own c p a.kind ≡ true) (ap (λ (n : ℕ). or_met (slice_get ps n)) e) own) may))
    (λ (n : slot_of a ≢ slot_of b). apart_slots a b ma mb n)
    (cases_eq (slot_of a) (slot_of b))

pub own_and_other : (ps : List Place) (c d : ℕ) (x y : Option Access) → c < 2 → d < 2 → c ≢ d → IsServed x → IsServed y → is_own_access ps c x ≡ true → may_access ps d y ≡ true → TurnsApart x y
own_and_other ps c d None y cs ds ne sx sy own may = tt
own_and_other ps c d (Some a) None cs ds ne sx sy own may = tt
own_and_other ps c d (Some a) (Some b) cs ds ne sx sy own may = (sx, sy, by_place ps c d a b cs ds ne sx sy own may)

own_may : (ps : List Place) (c : ℕ) (x : Option Access) → is_own_access ps c x ≡ true → may_access ps c x ≡ true
own_may ps c None h = refl
own_may ps c (Some a) h = own_comes (place_of ps a) c a.kind h

left_sizes : (x : Option Access) (m : MemoryContents) → HasSizes m → HasSizes (memory_left x m)
left_sizes None m s = s
left_sizes (Some a) m s = access_keeps_sizes m a s

no_zero : (n : ℕ) → (suc n == 0) ≡ false
no_zero n = ne_eqb (suc n) 0 (λ (e : suc n ≡ 0). omega arith)

served_if : (b : Bool) (x : Option Access) → IsServed x → IsServed (if b then None else x)
served_if true x h = tt
served_if false x h = h

-- a turn that is not barred
pub is_free : (b : Bool) → not b ≡ true → b ≡ false
is_free true h = absurd cc
is_free false h = refl

module _ (code : ℕ → ℕ) where
  pub next_served : (k : Side State) → IsServed (next_of code k)
  next_served k = served_if (k.left == 0) (demand code k.state) (demand_served code k.state)

  -- neither core has ended, and their accesses are apart
  abbrev SidesApart : ℕ → ℕ → State → State → Type 0
  SidesApart zero k s t = Unit {0}
  SidesApart (suc n) zero s t = Unit {0}
  SidesApart (suc n) (suc k) s t = TurnsApart (demand code s) (demand code t)

  sides_turned : (n k : ℕ) (s t : State) → SidesApart n k s t → SidesApart k n t s
  sides_turned zero zero s t h = tt
  sides_turned zero (suc k) s t h = tt
  sides_turned (suc n) zero s t h = tt
  sides_turned (suc n) (suc k) s t h = turns_turned (demand code s) (demand code t) h

  memory_swaps : (n k : ℕ) (s t : State) (m : MemoryContents) → HasSizes m → SidesApart n k s t
      → memory_given (processor code) k t (memory_given (processor code) n s m) ≡ memory_given (processor code) n s (memory_given (processor code) k t m)
  memory_swaps zero k s t m z h = refl
  memory_swaps (suc n) zero s t m z h = refl
  memory_swaps (suc n) (suc k) s t m z h = memories_swap (demand code s) (demand code t) m z h

  given_sizes : (n : ℕ) (s : State) (m : MemoryContents) → HasSizes m → HasSizes (memory_given (processor code) n s m)
  given_sizes zero s m z = z
  given_sizes (suc n) s m z = left_sizes (demand code s) m z

  module _ (timed : Bool) (ms : List ℕ) where
    pub past_sizes : (c : ℕ) (p : Spot State) → HasSizes p.memory → HasSizes (spot_next (processor code) timed ms c p).memory
    past_sizes zero p z = given_sizes p.side0.left p.side0.state p.memory z
    past_sizes (suc c) p z = given_sizes p.side1.left p.side1.state p.memory z

    side_stays : (n k : ℕ) (s : State) (t : Side State) (m : MemoryContents) → SidesApart n k s t.state
        → side_next (processor code) timed ms k t (memory_given (processor code) n s m) ≡ side_next (processor code) timed ms k t m
    side_stays zero k s t m h = refl
    side_stays (suc n) zero s t m h = refl
    side_stays (suc n) (suc k) s t m h = ap (λ (reply : ℕ). side_forgotten ms (side_past (processor code) timed t k reply)) (answer_stays (demand code s) (demand code t.state) m h)

    -- the two turns in either order
    swapped_spots : (p : Spot State) → HasSizes p.memory → SidesApart p.side0.left p.side1.left p.side0.state p.side1.state
        → spot_next (processor code) timed ms 1 (spot_next (processor code) timed ms 0 p) ≡ spot_next (processor code) timed ms 0 (spot_next (processor code) timed ms 1 p)
    swapped_spots p z h =
        let P = processor code in
        let n = p.side0.left in
        let k = p.side1.left in
        let s = p.side0.state in
        let t = p.side1.state in
        let make : Side State → Side State → MemoryContents → Spot State = λ x y m. record { side0 = x; side1 = y; memory = m } in
        let e : side_next P timed ms n p.side0 p.memory ≡ side_next P timed ms n p.side0 (memory_given P k t p.memory) = sym (side_stays k n t p.side0 p.memory (sides_turned n k s t h)) in
        let f : side_next P timed ms k p.side1 (memory_given P n s p.memory) ≡ side_next P timed ms k p.side1 p.memory = side_stays n k s p.side1 p.memory h in
        ap (λ (x : Side State). make x (side_next P timed ms k p.side1 (memory_given P n s p.memory)) (memory_given P k t (memory_given P n s p.memory))) e
        ∙ ap (λ (y : Side State). make (side_next P timed ms n p.side0 (memory_given P k t p.memory)) y (memory_given P k t (memory_given P n s p.memory))) f
        ∙ ap (make (side_next P timed ms n p.side0 (memory_given P k t p.memory)) (side_next P timed ms k p.side1 p.memory)) (memory_swaps n k s t p.memory z h)

    -- the other core stays
    pub other_side : (c d : ℕ) (p : Spot State) → c < 2 → d < 2 → c ≢ d → side_of d (spot_next (processor code) timed ms c p) ≡ side_of d p
    other_side zero zero p cs ds ne = absurd (ne refl)
    other_side zero (suc d) p cs ds ne = refl
    other_side (suc c) zero p cs ds ne = refl
    other_side (suc c) (suc d) p cs ds ne = let other : ¬ (suc c ≡ suc d) = ne in absurd (omega arith)

    module _ (ps : List Place) where
      -- what a turn that meets nothing is
      pub local_is_own : (c : ℕ) (s : Side State) → is_local code timed ms ps c s ≡ true → is_own_access ps c (next_of code s) ≡ true
      local_is_own c s h = (and_parts (not (next_bars code timed ms s)) (is_own_access ps c (next_of code s)) (and_parts (not (s.left == 0)) (not (next_bars code timed ms s) && is_own_access ps c (next_of code s)) h).1).1

      local_is_free : (c : ℕ) (s : Side State) → is_local code timed ms ps c s ≡ true → not (next_bars code timed ms s) ≡ true
      local_is_free c s h = (and_parts (not (next_bars code timed ms s)) (is_own_access ps c (next_of code s)) (and_parts (not (s.left == 0)) (not (next_bars code timed ms s) && is_own_access ps c (next_of code s)) h).1).0

      pub local_bars_none : (c : ℕ) (s : Side State) → is_local code timed ms ps c s ≡ true → next_bars code timed ms s ≡ false
      local_bars_none c s h = is_free (next_bars code timed ms s) (local_is_free c s h)

      -- what an allowed turn is
      pub allowed_is_told : (c : ℕ) (s : Side State) → is_allowed code timed ms ps c s ≡ true → is_told code ps c s ≡ true
      allowed_is_told c s h = (and_parts (is_told code ps c s) (not (next_bars code timed ms s)) h).0

      pub allowed_bars_none : (c : ℕ) (s : Side State) → is_allowed code timed ms ps c s ≡ true → next_bars code timed ms s ≡ false
      allowed_bars_none c s h = is_free (next_bars code timed ms s) (and_parts (is_told code ps c s) (not (next_bars code timed ms s)) h).1

      allowed_when : (a b : Bool) → a ≡ true → b ≡ false → (a && not b) ≡ true
      allowed_when true false h i = refl
      allowed_when true true h i = absurd cc
      allowed_when false b h i = absurd cc

      pub told_and_free : (c : ℕ) (s : Side State) → is_told code ps c s ≡ true → next_bars code timed ms s ≡ false → is_allowed code timed ms ps c s ≡ true
      told_and_free c s h i = allowed_when (is_told code ps c s) (next_bars code timed ms s) h i

      pub local_is_allowed : (c : ℕ) (s : Side State) → c < 2 → is_local code timed ms ps c s ≡ true → is_allowed code timed ms ps c s ≡ true
      local_is_allowed c s small h = told_and_free c s (own_may ps c (next_of code s) (local_is_own c s h)) (local_bars_none c s h)

      sides_apart : (c d n k : ℕ) (s t : State) → c < 2 → d < 2 → c ≢ d
          → is_own_access ps c (if n == 0 then None else demand code s) ≡ true → may_access ps d (if k == 0 then None else demand code t) ≡ true → SidesApart n k s t
      sides_apart c d zero k s t cs ds ne own may = tt
      sides_apart c d (suc n) zero s t cs ds ne own may = tt
      sides_apart c d (suc n) (suc k) s t cs ds ne own may =
          own_and_other ps c d (demand code s) (demand code t) cs ds ne (demand_served code s) (demand_served code t)
          (subst (λ (b : Bool). is_own_access ps c (if b then None else demand code s) ≡ true) (no_zero n) own)
          (subst (λ (b : Bool). may_access ps d (if b then None else demand code t) ≡ true) (no_zero k) may)

      pub spots_commute : (c d : ℕ) (p : Spot State) → HasSizes p.memory → c < 2 → d < 2 → c ≢ d → is_local code timed ms ps c (side_of c p) ≡ true → is_allowed code timed ms ps d (side_of d p) ≡ true
          → spot_next (processor code) timed ms d (spot_next (processor code) timed ms c p) ≡ spot_next (processor code) timed ms c (spot_next (processor code) timed ms d p)
      spots_commute zero zero p z cs ds ne own may = absurd (ne refl)
      spots_commute zero (suc d) p z cs ds ne own may =
          swapped_spots p z (sides_apart 0 (suc d) p.side0.left p.side1.left p.side0.state p.side1.state cs ds ne (local_is_own 0 p.side0 own) (allowed_is_told (suc d) p.side1 may))
      spots_commute (suc c) zero p z cs ds ne own may =
          sym (swapped_spots p z (sides_turned p.side1.left p.side0.left p.side1.state p.side0.state (sides_apart (suc c) 0 p.side1.left p.side0.left p.side1.state p.side0.state cs ds ne (local_is_own (suc c) p.side1 own) (allowed_is_told 0 p.side0 may))))
      spots_commute (suc c) (suc d) p z cs ds ne own may = let other : ¬ (suc c ≡ suc d) = ne in absurd (omega arith)
