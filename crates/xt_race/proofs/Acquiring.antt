-- What a core has acquired of the other one is what is ordered before.
use Rattle.std.proofs.Common.{◌≡◌, ◌≢◌, ℕ, zero, suc, ◌+◌, ◌<◌, ◌≤◌, Bool, true, false, ◌&&◌, eqb, cond, inl, inr, Option, Some, None, List, refl, sym, ap, ◌∙◌, subst, arith, below_more}
use Rattle.std.proofs.lemmas.Bool.{and_parts, and_from, cases_lt, eqb-true, eq-eqb}
use Rattle.std.proofs.lemmas.Bool.Decides.{nat_tests}
use Rattle.std.proofs.Math.Nat.{le-max_left, le-max_right}
use Rattle.std.specs.Prelude.{slice_get, max}
use Rattle.xt_race.specs.declared.event.Event.{Event}
use Rattle.xt_race.specs.Races.{IsOrdered, acquires}
use Rattle.xt_race.specs.Tables.{is_side, other}
use Rattle.xt_race.specs.Found.{latest, releases_at, acquired_count, seen_past}
use Rattle.xt_race.proofs.Newest.{Latter, latest_above, latest_is}

-- ---- the two cores

pub side_is : (c k : ℕ) → c < 2 → k < 2 → is_side c k ≡ true → k ≡ c
side_is zero k low h met = eqb-true k 0 met
side_is (suc zero) zero low h met = cc
side_is (suc zero) (suc zero) low h met = refl
side_is (suc zero) (suc (suc k)) low h met = absurd (omega arith)
side_is (suc (suc c)) k low h met = absurd (omega arith)

pub side_of : (c k : ℕ) → c < 2 → k ≡ c → is_side c k ≡ true
side_of zero k low e = eq-eqb k 0 e
side_of (suc zero) zero low e = absurd (omega arith)
side_of (suc zero) (suc k) low e = grind (arith, nat_tests)
side_of (suc (suc c)) k low e = absurd (omega arith)

pub other_is : (c d : ℕ) → c < 2 → d < 2 → c ≢ d → c ≡ other d
other_is zero zero low h apart = absurd (apart refl)
other_is zero (suc d) low h apart = refl
other_is (suc zero) zero low h apart = refl
other_is (suc zero) (suc zero) low h apart = absurd (apart refl)
other_is (suc zero) (suc (suc d)) low h apart = absurd (omega arith)
other_is (suc (suc c)) d low h apart = absurd (omega arith)

pub other_low : (d : ℕ) → other d < 2
other_low zero = omega arith
other_low (suc d) = omega arith

pub other_apart : (d : ℕ) → other d ≢ d
other_apart zero e = omega arith
other_apart (suc d) e = omega arith

-- ---- acquires

-- an acquire of the core
abbrev pub gains : ℕ → Event → Bool
gains c e = is_side c e.entry.core && acquires e

past_grows : (c : ℕ) (f : ℕ → ℕ) (b : ℕ) (o : Option Event) → b ≤ seen_past c f b o
past_grows c f b None = omega arith
past_grows c f b (Some e) = elim (gains c e) as (λ t. b ≤ cond t (max b (f e.entry.access.addr)) b) [ true ↦ le-max_left b (f e.entry.access.addr) | false ↦ omega arith ]

past_here : (c : ℕ) (f : ℕ → ℕ) (b : ℕ) (o : Option Event) (e : Event) → o ≡ Some e → gains c e ≡ true → f e.entry.access.addr ≤ seen_past c f b o
past_here c f b o e at met =
    let q : seen_past c f b o ≡ max b (f e.entry.access.addr) = ap (seen_past c f b) at ∙ ap (λ (t : Bool). cond t (max b (f e.entry.access.addr)) b) met in
    subst (λ (n : ℕ). f e.entry.access.addr ≤ n) (sym q) (le-max_right b (f e.entry.access.addr))

-- what was released before an acquire of the core has been acquired
pub seen_above : (c : ℕ) (es : List Event) (n k : ℕ) (e : Event) → slice_get es k ≡ Some e → gains c e ≡ true → k < n → latest (releases_at (other c) e.entry.access.addr) es k ≤ acquired_count c es n
seen_above c es zero k e at met lt = absurd (omega arith)
seen_above c es (suc n) k e at met lt =
    let rel : ℕ → ℕ → ℕ = λ a m. latest (releases_at (other c) a) es m in
    let P : ℕ → Type 0 = λ i. (x : Event) → slice_get es i ≡ Some x → gains c x ≡ true → rel x.entry.access.addr i ≤ acquired_count c es (suc n) in
    let grows : acquired_count c es n ≤ acquired_count c es (suc n) = past_grows c (λ a. rel a n) (acquired_count c es n) (slice_get es n) in
    let below : (i : ℕ) → i < n → P i = λ i h x a y. let q : rel x.entry.access.addr i ≤ acquired_count c es n = seen_above c es n i x a y h in omega (arith, q, grows) in
    let here : P n = λ x a y. past_here c (λ q. rel q n) (acquired_count c es n) (slice_get es n) x a y in
    let lt_one : k < n + 1 = omega arith in
    below_more P n below here k lt_one e at met

-- an acquire of the core by which so many entries of the other one were acquired
pub record Gained (c : ℕ) (es : List Event) (n i : ℕ) : Type 0 where
  pub place : ℕ
  pub event : Event
  pub high : place < n
  pub at : slice_get es place ≡ Some event
  pub gain : gains c event ≡ true
  pub below : i < latest (releases_at (other c) event.entry.access.addr) es place

more : (c : ℕ) (es : List Event) (n i : ℕ) → Gained c es n i → Gained c es (suc n) i
more c es n i h = let lt : h.place < suc n = omega (arith, h.high) in record { place = h.place; event = h.event; high = lt; at = h.at; gain = h.gain; below = h.below }

two : (a b i : ℕ) (P : Type 0) → i < max a b → (i < a → P) → (i < b → P) → P
two a b i P lt f g = elim (cases_lt i a) [ inl h ↦ f h | inr h ↦ g (omega (arith, lt, h)) ]

past_is : (c : ℕ) (es : List Event) (n i b : ℕ) (o : Option Event) → slice_get es n ≡ o → (i < b → Gained c es n i)
    → i < seen_past c (λ a. latest (releases_at (other c) a) es n) b o → Gained c es (suc n) i
past_is c es n i b None is before lt = more c es n i (before lt)
past_is c es n i b (Some e) is before lt =
    let r : ℕ = latest (releases_at (other c) e.entry.access.addr) es n in
    let P : Bool → Type 0 = λ t. gains c e ≡ t → i < cond t (max b r) b → Gained c es (suc n) i in
    let both : (t : Bool) → P t = elim [
      | true ↦ (λ met h. two b r i (Gained c es (suc n) i) h (λ q. more c es n i (before q)) (λ q. let high : n < suc n = omega arith in record { place = n; event = e; high = high; at = is; gain = met; below = q }))
      | false ↦ (λ none h. more c es n i (before h))
    ] in
    both (gains c e) refl lt

pub seen_is : (c : ℕ) (es : List Event) (n i : ℕ) → i < acquired_count c es n → Gained c es n i
seen_is c es zero i lt = absurd (omega arith)
seen_is c es (suc n) i lt = past_is c es n i (acquired_count c es n) (slice_get es n) refl (seen_is c es n i) lt

-- ---- the order

abbrev pub AreOfCores : List Event → Type 0
AreOfCores es = (k : ℕ) (e : Event) → slice_get es k ≡ Some e → e.entry.core < 2

below_suc : (a j : ℕ) → a < suc j → a ≤ j
below_suc a j h = omega arith

pub ordered_seen : (es : List Event) (c d i j : ℕ) → c < 2 → d < 2 → c ≢ d → IsOrdered es c i d j → i < acquired_count d es (suc j)
ordered_seen es c d i j low high apart h =
    let a : ℕ = h.acquired.entry.access.addr in
    let same : eqb a h.released.entry.access.addr ≡ true = eq-eqb a h.released.entry.access.addr (sym h.address) in
    let side : is_side (other d) h.released.entry.core ≡ true = side_of (other d) h.released.entry.core (other_low d) (h.of_first ∙ other_is c d low high apart) in
    let rel : releases_at (other d) a h.released ≡ true = and_from _ _ side (and_from _ _ h.releasing same) in
    let below : h.release < latest (releases_at (other d) a) es h.acquire = latest_above (releases_at (other d) a) es h.acquire h.release h.released h.at_release rel h.second in
    let gain : gains d h.acquired ≡ true = and_from _ _ (side_of d h.acquired.entry.core high h.of_second) h.acquiring in
    let within : h.acquire < suc j = omega (arith, h.third) in
    let got : latest (releases_at (other d) a) es h.acquire ≤ acquired_count d es (suc j) = seen_above d es (suc j) h.acquire h.acquired h.at_acquire gain within in
    omega (arith, h.first, below, got)

pub seen_ordered : (es : List Event) (c d i j : ℕ) → AreOfCores es → c < 2 → d < 2 → c ≢ d → i < acquired_count d es (suc j) → IsOrdered es c i d j
seen_ordered es c d i j cores low high apart lt =
    let g : Gained d es (suc j) i = seen_is d es (suc j) i lt in
    let a : ℕ = g.event.entry.access.addr in
    let r : Latter (releases_at (other d) a) es g.place i = latest_is (releases_at (other d) a) es g.place i g.below in
    let third : g.place ≤ j = below_suc g.place j g.high in
    let one = and_parts _ _ r.passes in
    let two_parts = and_parts _ _ one.1 in
    let gain = and_parts _ _ g.gain in
    record {
      release = r.place;
      acquire = g.place;
      released = r.event;
      acquired = g.event;
      first = r.low;
      second = r.high;
      third = third;
      at_release = r.at;
      at_acquire = g.at;
      of_first = side_is (other d) r.event.entry.core (other_low d) (cores r.place r.event r.at) one.0 ∙ sym (other_is c d low high apart);
      of_second = side_is d g.event.entry.core high (cores g.place g.event g.at) gain.0;
      releasing = two_parts.0;
      acquiring = gain.1;
      address = sym (eqb-true a r.event.entry.access.addr two_parts.1);
    }
