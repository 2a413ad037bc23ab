-- An entry is hit exactly where it is the second one of a race.
use Rattle.std.proofs.Common.{◌≡◌, ℕ, zero, suc, ◌+◌, ◌<◌, ◌≤◌, Bool, true, false, ◌&&◌, ◌||◌, not, eqb, cond, Option, Some, List, refl, sym, ap, ◌∙◌, subst, inl, inr, arith}
use Rattle.std.proofs.lemmas.Bool.{true≢false, and_from, and_parts, cases_eq, cases_lt, lt-ltb, ltb-true, or_cases, or_left, or_right}
use Rattle.std.proofs.lemmas.Bool.Decides.{nat_tests}
use Rattle.std.proofs.lemmas.Option.{same_Some}
use Rattle.std.specs.Prelude.{nat_lt, slice_get}
use Rattle.xt_map.specs.Regions.{region_of, is_memory}
use Rattle.xt_map.specs.Touching.{touches}
use Rattle.xt_race.specs.declared.event.Event.{Event}
use Rattle.xt_race.specs.Races.{Conflict, IsRace, synchronises, touches_byte, writes}
use Rattle.xt_race.specs.Tables.{latest_of, is_side, note_of, other, rival_of, some_byte}
use Rattle.xt_race.specs.Found.{is_hit, is_plain, latest, latest_at, latest_mark, meets, acquired_count}
use Rattle.xt_race.proofs.Newest.{Latter, latest_above, latest_is}
use Rattle.xt_race.proofs.Acquiring.{AreOfCores, other_apart, other_is, other_low, ordered_seen, seen_ordered, side_is, side_of}

-- ---- some byte

pub record SomeByte (f : ℕ → Bool) (addr n : ℕ) : Type 0 where
  pub byte : ℕ
  pub touched : touches addr n byte ≡ true
  pub passes : f byte ≡ true

touches_first : (addr n : ℕ) → touches addr (suc n) addr ≡ true
touches_first addr n = grind (arith, nat_tests)

touches_later : (addr n a : ℕ) → touches (addr + 1) n a ≡ true → touches addr (suc n) a ≡ true
touches_later addr n a h = grind (arith, nat_tests)

touches_rest : (addr n a : ℕ) → touches addr (suc n) a ≡ true → (a ≡ addr → ⊥) → touches (addr + 1) n a ≡ true
touches_rest addr n a h ne = grind (arith, nat_tests)

touches_nothing : (addr a : ℕ) → touches addr 0 a ≡ true → ⊥
touches_nothing addr a h = grind (arith, nat_tests)

pub some_is : (f : ℕ → Bool) (addr n : ℕ) → some_byte f addr n ≡ true → SomeByte f addr n
some_is f addr zero h = absurd (true≢false (sym h))
some_is f addr (suc n) h =
    elim (or_cases (f addr) (some_byte f (addr + 1) n) h) [
      | inl y ↦ record { byte = addr; touched = touches_first addr n; passes = y }
      | inr y ↦ (let s : SomeByte f (addr + 1) n = some_is f (addr + 1) n y in record { byte = s.byte; touched = touches_later addr n s.byte s.touched; passes = s.passes })
    ]

pub some_from : (f : ℕ → Bool) (addr n a : ℕ) → touches addr n a ≡ true → f a ≡ true → some_byte f addr n ≡ true
some_from f addr zero a h met = absurd (touches_nothing addr a h)
some_from f addr (suc n) a h met =
    elim (cases_eq a addr) [
      | inl e ↦ or_left _ _ (sym (ap f e) ∙ met)
      | inr e ↦ or_right _ _ (some_from f (addr + 1) n a (touches_rest addr n a h e) met)
    ]

-- ---- the entries with which one conflicts at a byte: of a side, by whether this one writes and whether it synchronises

abbrev rival : Bool → Bool → ℕ → ℕ → Event → Bool
rival true true c a x = meets c a x && is_plain x
rival true false c a x = meets c a x
rival false true c a x = meets c a x && (is_plain x && writes x)
rival false false c a x = meets c a x && writes x

rival_latest : (w s : Bool) (c : ℕ) (es : List Event) (n a : ℕ) → latest_of w (not s) (latest_at c es n a) ≡ latest (rival w s c a) es n
rival_latest true true c es n a = refl
rival_latest true false c es n a = refl
rival_latest false true c es n a = refl
rival_latest false false c es n a = refl

side_latest : (c : ℕ) (es : List Event) (n a : ℕ) → c < 2 → cond (eqb c 0) (latest_mark es n a).one (latest_mark es n a).zero ≡ latest_at (other c) es n a
side_latest zero es n a low = refl
side_latest (suc zero) es n a low = refl
side_latest (suc (suc c)) es n a low = absurd (omega arith)

rivals : (es : List Event) (n : ℕ) (e : Event) (a : ℕ) → e.entry.core < 2 → rival_of (note_of e (suc n)) (latest_mark es n a) ≡ latest (rival (writes e) (synchronises e) (other e.entry.core) a) es n
rivals es n e a low =
    ap (latest_of (writes e) (not (synchronises e))) (side_latest e.entry.core es n a low) ∙ rival_latest (writes e) (synchronises e) (other e.entry.core) es n a

-- ---- conflicts

pub record Meets (w s : Bool) (c a : ℕ) (x : Event) : Type 0 where
  pub side : is_side c x.entry.core ≡ true
  pub touched : touches_byte x a ≡ true
  pub memory : is_memory (region_of a) ≡ true
  pub writing : (writes x || w) ≡ true
  pub plain : (synchronises x && s) ≡ false

meets_parts : (w s : Bool) (c a : ℕ) (x : Event) → meets c a x ≡ true → (writes x || w) ≡ true → (synchronises x && s) ≡ false → Meets w s c a x
meets_parts w s c a x m v p =
    let one = and_parts _ _ m in
    let more = and_parts _ _ one.1 in
    record { side = one.0; touched = more.0; memory = more.1; writing = v; plain = p }

not_true : (t : Bool) → not t ≡ true → t ≡ false
not_true true h = absurd (true≢false (sym h))
not_true false h = refl

sync_plain : (t s : Bool) → not t ≡ true → (t && s) ≡ false
sync_plain t s h = ap (λ (b : Bool). b && s) (not_true t h)

and_false : (t : Bool) → (t && false) ≡ false
and_false true = refl
and_false false = refl

or_true : (t : Bool) → (t || true) ≡ true
or_true true = refl
or_true false = refl

rival_parts : (w s : Bool) (c a : ℕ) (x : Event) → rival w s c a x ≡ true → Meets w s c a x
rival_parts true true c a x h = let p = and_parts _ _ h in meets_parts true true c a x p.0 (or_true (writes x)) (sync_plain (synchronises x) true p.1)
rival_parts true false c a x h = meets_parts true false c a x h (or_true (writes x)) (and_false (synchronises x))
rival_parts false true c a x h =
    let p = and_parts _ _ h in
    let q = and_parts _ _ p.1 in
    meets_parts false true c a x p.0 (or_left _ _ q.1) (sync_plain (synchronises x) true q.0)
rival_parts false false c a x h = let p = and_parts _ _ h in meets_parts false false c a x p.0 (or_left _ _ p.1) (and_false (synchronises x))

or_no : (t : Bool) → (t || false) ≡ true → t ≡ true
or_no true h = refl
or_no false h = absurd (true≢false (sym h))

and_yes : (t : Bool) → (t && true) ≡ false → not t ≡ true
and_yes true h = absurd (true≢false h)
and_yes false h = refl

rival_from : (w s : Bool) (c a : ℕ) (x : Event) → Meets w s c a x → rival w s c a x ≡ true
rival_from true true c a x h = and_from _ _ (and_from _ _ h.side (and_from _ _ h.touched h.memory)) (and_yes (synchronises x) h.plain)
rival_from true false c a x h = and_from _ _ h.side (and_from _ _ h.touched h.memory)
rival_from false true c a x h =
    and_from _ _ (and_from _ _ h.side (and_from _ _ h.touched h.memory)) (and_from _ _ (and_yes (synchronises x) h.plain) (or_no (writes x) h.writing))
rival_from false false c a x h = and_from _ _ (and_from _ _ h.side (and_from _ _ h.touched h.memory)) (or_no (writes x) h.writing)

-- ---- hits

-- an entry before place n that conflicts with e, of which the core of e has not acquired so much
pub record Rival (es : List Event) (n : ℕ) (e : Event) : Type 0 where
  pub place : ℕ
  pub event : Event
  pub low : acquired_count e.entry.core es (suc n) ≤ place
  pub high : place < n
  pub at : slice_get es place ≡ Some event
  pub conflict : Conflict event e

pub hit_is : (es : List Event) (n : ℕ) (e : Event) → AreOfCores es → e.entry.core < 2 → is_hit es n e ≡ true → Rival es n e
hit_is es n e cores low h =
    let c : ℕ = e.entry.core in
    let s : ℕ = acquired_count c es (suc n) in
    let f : ℕ → Bool = λ a. nat_lt s (rival_of (note_of e (suc n)) (latest_mark es n a)) in
    let b : SomeByte f e.entry.access.addr e.entry.access.size = some_is f e.entry.access.addr e.entry.access.size h in
    let p : Event → Bool = rival (writes e) (synchronises e) (other c) b.byte in
    let above : s < latest p es n = subst (λ (m : ℕ). s < m) (rivals es n e b.byte low) (ltb-true _ _ b.passes) in
    let l : Latter p es n s = latest_is p es n s above in
    let m : Meets (writes e) (synchronises e) (other c) b.byte l.event = rival_parts (writes e) (synchronises e) (other c) b.byte l.event l.passes in
    let core : l.event.entry.core ≡ other c = side_is (other c) l.event.entry.core (other_low c) (cores l.place l.event l.at) m.side in
    record {
      place = l.place;
      event = l.event;
      low = l.low;
      high = l.high;
      at = l.at;
      conflict = record {
        cores = λ same. other_apart c (sym core ∙ same);
        byte = b.byte;
        in_first = m.touched;
        in_second = b.touched;
        in_memory = m.memory;
        writing = m.writing;
        not_both = m.plain;
      };
    }

pub hit_from : (es : List Event) (n i : ℕ) (x e : Event) → AreOfCores es → e.entry.core < 2 → slice_get es i ≡ Some x → i < n → acquired_count e.entry.core es (suc n) ≤ i → Conflict x e → is_hit es n e ≡ true
hit_from es n i x e cores low at lt more k =
    let c : ℕ = e.entry.core in
    let s : ℕ = acquired_count c es (suc n) in
    let f : ℕ → Bool = λ a. nat_lt s (rival_of (note_of e (suc n)) (latest_mark es n a)) in
    let p : Event → Bool = rival (writes e) (synchronises e) (other c) k.byte in
    let core : x.entry.core ≡ other c = other_is x.entry.core c (cores i x at) low k.cores in
    let m : Meets (writes e) (synchronises e) (other c) k.byte x = record {
      side = side_of (other c) x.entry.core (other_low c) core;
      touched = k.in_first;
      memory = k.in_memory;
      writing = k.writing;
      plain = k.not_both;
    } in
    let above : i < latest p es n = latest_above p es n i x at (rival_from (writes e) (synchronises e) (other c) k.byte x m) lt in
    let late : s < latest p es n = omega (arith, above, more) in
    let passes : f k.byte ≡ true = lt-ltb _ _ (subst (λ (q : ℕ). s < q) (sym (rivals es n e k.byte low)) late) in
    some_from f e.entry.access.addr e.entry.access.size k.byte k.in_second passes

-- ---- races

pub race_hits : (es : List Event) (i n : ℕ) (e : Event) → AreOfCores es → slice_get es n ≡ Some e → IsRace es i n → (is_hit es n e ≡ true) × (acquired_count e.entry.core es (suc n) ≤ i) × ((x : Event) × (slice_get es i ≡ Some x) × Conflict x e)
race_hits es i n e cores at r =
    let same : ◌≡◌ {A = Option Event} (Some r.second) (Some e) = sym r.at_second ∙ at in
    let is : r.second ≡ e = same_Some r.second e same in
    let k : Conflict r.first e = subst (λ (y : Event). Conflict r.first y) is r.conflict in
    let low : e.entry.core < 2 = cores n e at in
    let first : r.first.entry.core < 2 = cores i r.first r.at_first in
    let none : i < acquired_count e.entry.core es (suc n) → ⊥ = λ lt.
    r.unordered (seen_ordered es r.first.entry.core r.second.entry.core i n cores first (cores n r.second r.at_second) r.conflict.cores (subst (λ (y : Event). i < acquired_count y.entry.core es (suc n)) (sym is) lt)) in
    let more : acquired_count e.entry.core es (suc n) ≤ i = elim (cases_lt i (acquired_count e.entry.core es (suc n))) [ inl lt ↦ absurd (none lt) | inr le ↦ le ] in
    (hit_from es n i r.first e cores low r.at_first r.earlier more k, more, (r.first, r.at_first, k))

pub race_from : (es : List Event) (i n : ℕ) (x e : Event) → AreOfCores es → slice_get es i ≡ Some x → slice_get es n ≡ Some e → i < n → acquired_count e.entry.core es (suc n) ≤ i → Conflict x e → IsRace es i n
race_from es i n x e cores at_i at_n lt more k = record {
  first = x;
  second = e;
  earlier = lt;
  at_first = at_i;
  at_second = at_n;
  conflict = k;
  unordered = λ o. (let q : i < acquired_count e.entry.core es (suc n) = ordered_seen es x.entry.core e.entry.core i n (cores i x at_i) (cores n e at_n) k.cores o in omega (arith, q, more));
}
