-- The walks over the entries of a run.
use Rattle.std.proofs.Common.{◌≡◌, ℕ, zero, suc, ◌+◌, ◌<◌, ◌≤◌, ◌^◌, true, false, cond, eqb, Option, Some, None, List, [], ◌∷◌, drop, length, refl, sym, ap, ◌∙◌, subst, inl, inr, arith, below_more}
use Rattle.std.proofs.lemmas.Bool.{cases_lt}
use Rattle.std.proofs.lemmas.Option.{none-some, same_Some, slice_get_within}
use Rattle.std.specs.Prelude.{slice_get}
use Rattle.xt_map.specs.declared.access.Entry.{Entry}
use Rattle.xt_trace.specs.declared.record.StepRecord.{StepRecord}
use Rattle.xt_trace.specs.declared.run.Run.{Run}
use Rattle.xt_image.specs.declared.image.Image.{Image}
use Rattle.xt_core.specs.Runs.{IsRunOf, code_of, records_of}
use Rattle.xt_race.specs.declared.event.Event.{Event}
use Rattle.xt_race.specs.declared.finder.Finder.{Finder}
use Rattle.xt_race.specs.declared.finder.RaceStep.{RaceStep}
use Rattle.xt_race.specs.declared.race.Later.{Later}
use Rattle.xt_race.specs.Races.{event, event_before, events_from, events_of, turns_from}
use Rattle.xt_race.specs.Found.{IsTaken, Knows}
use Rattle.xt_race.specs.Firsts.{FirstFit, FirstHit, IsEarlier, IsLater, fits_at, fits_in, hit_at, hit_in}
use Rattle.xt_race.proofs.Acquiring.{AreOfCores}
use Rattle.xt_race.proofs.Bounds.{entries_few}
use Rattle.xt_race.proofs.Concluding.{at_place, past_end}

-- ---- the entries

before_short : (code : ℕ → ℕ) (e : Entry) (o : Option (ℕ × StepRecord)) (rest : List Event) (n : ℕ) → length rest ≤ n → length (event_before code e o rest) ≤ suc n
before_short code e None rest n h = omega arith
before_short code e (Some t) rest n h = omega arith

short : (code : ℕ → ℕ) (h : List Entry) (xs ys : List (ℕ × StepRecord)) → length (events_from code h xs ys) ≤ length h
short code [] xs ys = omega arith
short code (e ∷ es) xs ys =
    let a = event_before code e (slice_get xs 0) (events_from code es (drop 1 xs) ys) in
    let b = event_before code e (slice_get ys 0) (events_from code es xs (drop 1 ys)) in
    elim (eqb e.core 0) as (λ t. length (cond t a b) ≤ suc (length es)) [
      | true ↦ before_short code e (slice_get xs 0) _ (length es) (short code es (drop 1 xs) ys)
      | false ↦ before_short code e (slice_get ys 0) _ (length es) (short code es xs (drop 1 ys))
    ]

pub events_few : (image : Image) (r : Run) → IsRunOf image r → length (events_of image r) ≤ 8000000
events_few image r h =
    let a : length (events_of image r) ≤ length r.history = short (code_of image) r.history (turns_from 0 (records_of 0 image r).records) (turns_from 0 (records_of 1 image r).records) in
    let b : length r.history ≤ 8000000 = entries_few image r h in
    omega (arith, a, b)

abbrev AreEntries : List Event → List Entry → Type 0
AreEntries events es = (k : ℕ) (x : Event) → slice_get events k ≡ Some x → slice_get es k ≡ Some x.entry

before_entries : (code : ℕ → ℕ) (e : Entry) (es : List Entry) (o : Option (ℕ × StepRecord)) (rest : List Event) → AreEntries rest es → AreEntries (event_before code e o rest) (e ∷ es)
before_entries code e es None rest h k x at = absurd (none-some x at)
before_entries code e es (Some t) rest h zero x at = ap (λ (v : Event). Some v.entry) (same_Some (event code e t) x at)
before_entries code e es (Some t) rest h (suc k) x at = h k x at

entries_are : (code : ℕ → ℕ) (h : List Entry) (xs ys : List (ℕ × StepRecord)) → AreEntries (events_from code h xs ys) h
entries_are code [] xs ys = λ k x at. absurd (none-some x at)
entries_are code (e ∷ es) xs ys =
    let a = event_before code e (slice_get xs 0) (events_from code es (drop 1 xs) ys) in
    let b = event_before code e (slice_get ys 0) (events_from code es xs (drop 1 ys)) in
    elim (eqb e.core 0) as (λ t. AreEntries (cond t a b) (e ∷ es)) [
      | true ↦ before_entries code e es (slice_get xs 0) _ (entries_are code es (drop 1 xs) ys)
      | false ↦ before_entries code e es (slice_get ys 0) _ (entries_are code es xs (drop 1 ys))
    ]

pub are_of_cores : (image : Image) (r : Run) → IsRunOf image r → AreOfCores (events_of image r)
are_of_cores image r h k e at =
    h.cores k e.entry (entries_are (code_of image) r.history (turns_from 0 (records_of 0 image r).records) (turns_from 0 (records_of 1 image r).records) k e at)

-- ---- a walk

pub room : (es left : List Event) (n : ℕ) (e : Event) (rest : List Event) → length es ≤ 8000000 → left ≡ drop n es → left ≡ e ∷ rest → n + 1 < 2 ^ 32
room es left n e rest few is next =
    let at = at_place es n e rest (sym is ∙ next) in
    let lt : n < length es = slice_get_within es n e at.0 in
    omega (arith, lt, few)

one_more : (es : List Event) (n m : ℕ) (rest : List Event) → m ≡ n + 1 → drop (suc n) es ≡ rest → rest ≡ drop m es
one_more es n m rest e h = let q : suc n ≡ m = omega (arith, e) in sym h ∙ ap (λ (i : ℕ). drop i es) q

-- ---- the later entry

-- so many entries are passed, and none races with one before it
pub record Passed (es left : List Event) (f : Finder) : Type 0 where
  pub left_is : left ≡ drop f.count es
  pub knows : Knows f es f.count
  pub none : (n : ℕ) → n < f.count → hit_at es n ≡ false

pub passed_none : (es left : List Event) (f : Finder) → left ≡ es → Knows f es 0 → Passed es left f
passed_none es left f is h =
    let zero_is : 0 ≡ f.count = sym h.count in
    record {
      left_is = is ∙ ap (λ (n : ℕ). drop n es) zero_is;
      knows = subst (λ (n : ℕ). Knows f es n) zero_is h;
      none = λ n lt. absurd (omega (arith, lt, zero_is));
    }

pub passed_room : (es left : List Event) (f : Finder) (e : Event) (rest : List Event) → length es ≤ 8000000 → Passed es left f → left ≡ e ∷ rest → f.count + 1 < 2 ^ 32
passed_room es left f e rest few p next = room es left f.count e rest few p.left_is next

-- what one more entry comes to
pub passed_taken : (es left : List Event) (f g : Finder) (e : Event) (rest : List Event) (r : RaceStep) → AreOfCores es → Passed es left f → left ≡ e ∷ rest
    → ((events : List Event) (n : ℕ) → Knows f events n → slice_get events n ≡ Some e → e.entry.core < 2 → IsTaken events n e g r) → IsTaken es f.count e g r
passed_taken es left f g e rest r cores p next taken =
    let at = at_place es f.count e rest (sym p.left_is ∙ next) in
    taken es f.count p.knows at.0 (cores f.count e at.0)

pub passed_more : (es left : List Event) (f g : Finder) (e : Event) (rest : List Event) (r : RaceStep) → Passed es left f → left ≡ e ∷ rest → IsTaken es f.count e g r → g.count ≡ f.count + 1 → r.hit ≡ false → Passed es rest g
passed_more es left f g e rest r p next t count miss =
    let n : ℕ = f.count in
    let at = at_place es n e rest (sym p.left_is ∙ next) in
    let here : hit_at es n ≡ false = ap (hit_in es n) at.0 ∙ sym t.hit_is ∙ miss in
    let below : (k : ℕ) → k < n + 1 → hit_at es k ≡ false = below_more (λ (k : ℕ). hit_at es k ≡ false) n p.none here in
    record {
      left_is = one_more es n g.count rest count at.1;
      knows = subst (λ (m : ℕ). Knows g es m) (sym t.knows.count) t.knows;
      none = λ k lt. below k (subst (λ (m : ℕ). k < m) count lt);
    }

pub passed_hit : (es left : List Event) (f g : Finder) (e : Event) (rest : List Event) (r : RaceStep) → Passed es left f → left ≡ e ∷ rest → IsTaken es f.count e g r → r.hit ≡ true
    → FirstHit es (record { place = f.count; event = e; seen = r.seen })
passed_hit es left f g e rest r p next t hit =
    let at = at_place es f.count e rest (sym p.left_is ∙ next) in
    record { at = at.0; hit = sym t.hit_is ∙ hit; acquired = t.seen_is; none_before = p.none }

pub passed_all : (es left : List Event) (f : Finder) → Passed es left f → left ≡ [] → IsLater es None
passed_all es left f p end n =
    elim (cases_lt n f.count) [
      | inl lt ↦ p.none n lt
      | inr le ↦ ap (hit_in es n) (past_end es f.count (sym p.left_is ∙ end) n le)
    ]

-- ---- the earlier entry

pub record Missed (es left : List Event) (l : Later) (n : ℕ) : Type 0 where
  pub left_is : left ≡ drop n es
  pub none : (k : ℕ) → k < n → fits_at es l k ≡ false

pub missed_none : (es left : List Event) (l : Later) → left ≡ es → Missed es left l 0
missed_none es left l is = record { left_is = is; none = λ k lt. absurd (omega arith) }

pub missed_more : (es left : List Event) (l : Later) (n : ℕ) (e : Event) (rest : List Event) → Missed es left l n → left ≡ e ∷ rest → fits_in l n (Some e) ≡ false → Missed es rest l (n + 1)
missed_more es left l n e rest m next miss =
    let at = at_place es n e rest (sym m.left_is ∙ next) in
    let here : fits_at es l n ≡ false = ap (fits_in l n) at.0 ∙ miss in
    record { left_is = one_more es n (n + 1) rest refl at.1; none = below_more (λ (k : ℕ). fits_at es l k ≡ false) n m.none here }

pub missed_hit : (es left : List Event) (l : Later) (n : ℕ) (e : Event) (rest : List Event) → Missed es left l n → left ≡ e ∷ rest → fits_in l n (Some e) ≡ true → FirstFit es l (record { place = n; event = e })
missed_hit es left l n e rest m next hit =
    let at = at_place es n e rest (sym m.left_is ∙ next) in
    record { at = at.0; fit = ap (fits_in l n) at.0 ∙ hit; none_before = m.none }

pub missed_all : (es left : List Event) (l : Later) (n : ℕ) → Missed es left l n → left ≡ [] → IsEarlier es l None
missed_all es left l n m end k =
    elim (cases_lt k n) [
      | inl lt ↦ m.none k lt
      | inr le ↦ ap (fits_in l k) (past_end es n (sym m.left_is ∙ end) k le)
    ]
