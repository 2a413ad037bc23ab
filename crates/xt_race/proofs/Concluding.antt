-- The later entry of the first race, and then the earlier one, are the first race.
use Rattle.std.proofs.Common.{◌≡◌, ℕ, zero, suc, ◌<◌, ◌≤◌, Bool, true, false, not, eqb, Option, Some, None, List, [], ◌∷◌, drop, refl, sym, ap, ◌∙◌, subst, inl, inr, arith}
use Rattle.std.proofs.lemmas.Bool.{true≢false, and_from, and_parts, cases_lt, eq-eqb, le-leb, leb-true, ne_eqb}
use Rattle.std.specs.Prelude.{slice_get}
use Rattle.xt_race.specs.declared.event.Event.{Event}
use Rattle.xt_race.specs.declared.race.Earlier.{Earlier}
use Rattle.xt_race.specs.declared.race.Later.{Later}
use Rattle.xt_race.specs.Races.{Conflict, IsFirst, IsRace}
use Rattle.xt_race.specs.Clashes.{clash, shares_byte, touches_memory}
use Rattle.xt_race.specs.Found.{acquired_count}
use Rattle.xt_race.specs.Firsts.{FirstFit, FirstHit, FirstPair, IsEarlier, IsLater, fits_at, fits_in, hit_at, hit_in}
use Rattle.xt_race.proofs.Acquiring.{AreOfCores}
use Rattle.xt_race.proofs.Racing.{Rival, SomeByte, hit_is, race_from, race_hits, some_from, some_is}

-- ---- the test of a conflict

not_yes : (t : Bool) → not t ≡ true → t ≡ false
not_yes true h = absurd (true≢false (sym h))
not_yes false h = refl

not_no : (t : Bool) → t ≡ false → not t ≡ true
not_no true h = absurd (true≢false h)
not_no false h = refl

no_both : (t : Bool) → t ≡ true → t ≡ false → ⊥
no_both t h g = true≢false (sym h ∙ g)

pub clash_is : (x y : Event) → clash x y ≡ true → Conflict x y
clash_is x y h =
    let a = and_parts _ _ h in
    let b = and_parts _ _ a.1 in
    let c = and_parts _ _ b.1 in
    let f : ℕ → Bool = touches_memory y in
    let s : SomeByte f x.entry.access.addr x.entry.access.size = some_is f x.entry.access.addr x.entry.access.size c.1 in
    let p = and_parts _ _ s.passes in
    let apart : eqb x.entry.core y.entry.core ≡ false = not_yes _ a.0 in
    record {
      cores = λ e. no_both _ (eq-eqb _ _ e) apart;
      byte = s.byte;
      in_first = s.touched;
      in_second = p.0;
      in_memory = p.1;
      writing = b.0;
      not_both = not_yes _ c.0;
    }

pub clash_from : (x y : Event) → Conflict x y → clash x y ≡ true
clash_from x y k =
    let f : ℕ → Bool = touches_memory y in
    let shares : shares_byte x y ≡ true = some_from f x.entry.access.addr x.entry.access.size k.byte k.in_first (and_from _ _ k.in_second k.in_memory) in
    and_from _ _ (not_no _ (ne_eqb _ _ k.cores)) (and_from _ _ k.writing (and_from _ _ (not_no _ k.not_both) shares))

-- ---- what fits

pub record Fits (es : List Event) (l : Later) (i : ℕ) : Type 0 where
  pub event : Event
  pub at : slice_get es i ≡ Some event
  pub late : l.seen ≤ i
  pub conflict : Conflict event l.event

fits_some : (es : List Event) (l : Later) (i : ℕ) (o : Option Event) → slice_get es i ≡ o → fits_in l i o ≡ true → Fits es l i
fits_some es l i None e h = absurd (true≢false (sym h))
fits_some es l i (Some x) e h =
    let p = and_parts _ _ h in
    record { event = x; at = e; late = leb-true l.seen i p.0; conflict = clash_is x l.event p.1 }

fits_is : (es : List Event) (l : Later) (i : ℕ) → fits_at es l i ≡ true → Fits es l i
fits_is es l i h = fits_some es l i (slice_get es i) refl h

fits_from : (es : List Event) (l : Later) (i : ℕ) → Fits es l i → fits_at es l i ≡ true
fits_from es l i f = ap (fits_in l i) f.at ∙ and_from _ _ (le-leb l.seen i f.late) (clash_from f.event l.event f.conflict)

-- ---- the later entry

race_is_hit : (es : List Event) (i j : ℕ) → AreOfCores es → IsRace es i j → hit_at es j ≡ true
race_is_hit es i j cores r = ap (hit_in es j) r.at_second ∙ (race_hits es i j r.second cores r.at_second r).0

pub none_race : (es : List Event) → AreOfCores es → IsLater es None → (i j : ℕ) → IsRace es i j → ⊥
none_race es cores none i j r = no_both _ (race_is_hit es i j cores r) (none j)

rival_fits : (es : List Event) (l : Later) → FirstHit es l → (r : Rival es l.place l.event) → fits_at es l r.place ≡ true
rival_fits es l h r =
    let late : l.seen ≤ r.place = subst (λ (n : ℕ). n ≤ r.place) (sym h.acquired) r.low in
    fits_from es l r.place (record { event = r.event; at = r.at; late = late; conflict = r.conflict })

rival_of_hit : (es : List Event) (l : Later) → AreOfCores es → FirstHit es l → Rival es l.place l.event
rival_of_hit es l cores h = hit_is es l.place l.event cores (cores l.place l.event h.at) h.hit

pub some_fits : (es : List Event) (l : Later) → AreOfCores es → FirstHit es l → IsEarlier es l None → ⊥
some_fits es l cores h none =
    let r = rival_of_hit es l cores h in
    no_both _ (rival_fits es l h r) (none r.place)

-- ---- the first race

first_is : (es : List Event) (l : Later) (x : Earlier) → AreOfCores es → FirstHit es l → FirstFit es l x → IsFirst es (record { first = x.place; second = l.place })
first_is es l x cores h least =
    let i : ℕ = x.place in
    let r : Rival es l.place l.event = rival_of_hit es l cores h in
    let f : Fits es l i = fits_is es l i least.fit in
    let first : i ≤ r.place = elim (cases_lt r.place i) [ inl lt ↦ absurd (no_both _ (rival_fits es l h r) (least.none_before r.place lt)) | inr le ↦ le ] in
    let early : i < l.place = omega (arith, first, r.high) in
    let late : acquired_count l.event.entry.core es (suc l.place) ≤ i = subst (λ (n : ℕ). n ≤ i) h.acquired f.late in
    record {
      race = race_from es i l.place f.event l.event cores f.at h.at early late f.conflict;
      least_second = λ k j race. elim (cases_lt j l.place) [ inl lt ↦ absurd (no_both _ (race_is_hit es k j cores race) (h.none_before j lt)) | inr le ↦ le ];
      least_first = λ k race. elim (cases_lt k i) [
        | inl lt ↦ (let q = race_hits es k l.place l.event cores h.at race in
            let fit : Fits es l k = record { event = q.2.0; at = q.2.1; late = subst (λ (n : ℕ). n ≤ k) (sym h.acquired) q.1; conflict = q.2.2 } in
            absurd (no_both _ (fits_from es l k fit) (least.none_before k lt)))
        | inr le ↦ le
      ];
    }

pub pair_is : (es : List Event) (l : Later) (x : Earlier) → AreOfCores es → FirstHit es l → FirstFit es l x
    → FirstPair es (record { race = record { first = x.place; second = l.place }; first = x.event; second = l.event })
pair_is es l x cores h least = record { race = first_is es l x cores h least; at_first = least.at; at_second = h.at }

-- ---- the walks

pub at_place : {A : Type 0} (es : List A) (n : ℕ) (e : A) (rest : List A) → drop n es ≡ e ∷ rest → (slice_get es n ≡ Some e) × (drop (suc n) es ≡ rest)
at_place [] zero e rest h = absurd (cc)
at_place [] (suc n) e rest h = absurd (cc)
at_place (x ∷ xs) zero e rest h = (cc, cc)
at_place (x ∷ xs) (suc n) e rest h = at_place xs n e rest h

pub past_end : {A : Type 0} (es : List A) (n : ℕ) → drop n es ≡ [] → (k : ℕ) → n ≤ k → slice_get es k ≡ None
past_end [] n h k le = refl
past_end (x ∷ xs) zero h k le = absurd (cc)
past_end (x ∷ xs) (suc n) h zero le = absurd (omega arith)
past_end (x ∷ xs) (suc n) h (suc k) le = let q : n ≤ k = omega arith in past_end xs n h k q
