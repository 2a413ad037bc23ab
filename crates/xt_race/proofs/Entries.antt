-- Each entry has its turn, and there is one first race at most.
use Rattle.std.proofs.Common.{◌≡◌, ℕ, zero, suc, ◌<◌, ◌≤◌, Option, Some, None, List, [], ◌∷◌, length, map, refl, sym, ap, ap₂, ◌∙◌, subst, arith}
use Rattle.std.proofs.lemmas.Option.{none-some, same_Some}
use Rattle.std.specs.Prelude.{slice_get}
use Rattle.xt_map.specs.declared.access.Access.{Access}
use Rattle.xt_map.specs.declared.access.Entry.{Entry}
use Rattle.xt_map.specs.History.{IsOfCores, calls_of}
use Rattle.xt_trace.specs.declared.record.StepRecord.{StepRecord}
use Rattle.xt_trace.specs.declared.run.Run.{Run}
use Rattle.xt_trace.specs.Calls.{call_before, calls_in}
use Rattle.xt_trace.specs.Worlds.{entry}
use Rattle.xt_image.specs.declared.image.Image.{Image}
use Rattle.xt_core.specs.Runs.{IsRunOf, code_of, records_of}
use Rattle.xt_race.specs.declared.event.Event.{Event}
use Rattle.xt_race.specs.declared.race.Race.{Race}
use Rattle.xt_race.specs.Races.{IsFirstRace, IsRace, event, events_from, events_of, turn_before, turns_from}

-- ---- entries

abbrev entries : List Event → List Entry
entries events = map (λ (e : Event). e.entry) events

one_turn : (i : ℕ) (x : StepRecord) (o : Option Access) (turns : List (ℕ × StepRecord)) (calls : List (Access × ℕ)) → length turns ≡ length calls
    → length (turn_before o i x turns) ≡ length (call_before o x.reply calls)
one_turn i x None turns calls h = h
one_turn i x (Some a) turns calls h = ap (λ (k : ℕ). suc k) h

turns_long : (i : ℕ) (rs : List StepRecord) → length (turns_from i rs) ≡ length (calls_in rs)
turns_long i [] = refl
turns_long i (x ∷ xs) = one_turn i x x.access (turns_from (suc i) xs) (calls_in xs) (turns_long (suc i) xs)

step : (code : ℕ → ℕ) (c : ℕ) (a : Access) (y : ℕ) (es : List Entry) (xs ys : List (ℕ × StepRecord)) → c < 2
    → length (calls_of 0 (entry c a y ∷ es)) ≤ length xs → length (calls_of 1 (entry c a y ∷ es)) ≤ length ys
    → ((vs ws : List (ℕ × StepRecord)) → length (calls_of 0 es) ≤ length vs → length (calls_of 1 es) ≤ length ws → entries (events_from code es vs ws) ≡ es)
    → entries (events_from code (entry c a y ∷ es) xs ys) ≡ entry c a y ∷ es
step code zero a y es [] ys lt h g rest = absurd (omega (arith, h))
step code zero a y es (x ∷ xs) ys lt h g rest =
    let q : length (calls_of 0 es) ≤ length xs = omega (arith, h) in
    ap (λ (l : List Entry). entry 0 a y ∷ l) (rest xs ys q g)
step code (suc zero) a y es xs [] lt h g rest = absurd (omega (arith, g))
step code (suc zero) a y es xs (x ∷ ys) lt h g rest =
    let q : length (calls_of 1 es) ≤ length ys = omega (arith, g) in
    ap (λ (l : List Entry). entry 1 a y ∷ l) (rest xs ys h q)
step code (suc (suc c)) a y es xs ys lt h g rest = absurd (omega arith)

walk : (code : ℕ → ℕ) (es : List Entry) (xs ys : List (ℕ × StepRecord)) → IsOfCores es → length (calls_of 0 es) ≤ length xs → length (calls_of 1 es) ≤ length ys → entries (events_from code es xs ys) ≡ es
walk code [] xs ys cores h g = refl
walk code (e ∷ es) xs ys cores h g =
    step code e.core e.access e.reply es xs ys (cores 0 e refl) h g (λ vs ws p q. walk code es vs ws (λ k x at. cores (suc k) x at) p q)

pub entries_have : (image : Image) (r : Run) → IsRunOf image r → map (λ (e : Event). e.entry) (events_of image r) ≡ r.history
entries_have image r h =
    let z0 = (records_of 0 image r).records in
    let z1 = (records_of 1 image r).records in
    let l0 : length (turns_from 0 z0) ≡ length (calls_in z0) = turns_long 0 z0 in
    let l1 : length (turns_from 0 z1) ≡ length (calls_in z1) = turns_long 0 z1 in
    let e0 : length (calls_of 0 r.history) ≤ length (turns_from 0 z0) = omega (arith, l0, ap length h.calls0) in
    let e1 : length (calls_of 1 r.history) ≤ length (turns_from 0 z1) = omega (arith, l1, ap length h.calls1) in
    walk (code_of image) r.history (turns_from 0 z0) (turns_from 0 z1) h.cores e0 e1

-- ---- one race

between : (a b : ℕ) → a ≤ b → b ≤ a → a ≡ b
between a b h g = omega arith

pub one_first : (events : List Event) (x y : Option Race) → IsFirstRace events x → IsFirstRace events y → x ≡ y
one_first events None None p q = refl
one_first events None (Some b) p q = absurd (p b.first b.second q.race)
one_first events (Some a) None p q = absurd (q a.first a.second p.race)
one_first events (Some a) (Some b) p q =
    let s : a.second ≡ b.second = between a.second b.second (p.least_second b.first b.second q.race) (q.least_second a.first a.second p.race) in
    let f : a.first ≡ b.first = between a.first b.first
    (p.least_first b.first (subst (λ (n : ℕ). IsRace events b.first n) (sym s) q.race))
    (q.least_first a.first (subst (λ (n : ℕ). IsRace events a.first n) s p.race)) in
    ap₂ (λ (i j : ℕ). Some (record { first = i; second = j })) f s

-- ---- the records of entries

-- each turn has an access
abbrev AllAsk : List (ℕ × StepRecord) → Type 0
AllAsk turns = (k : ℕ) (t : ℕ × StepRecord) → slice_get turns k ≡ Some t → (a : Access) × (t.1.access ≡ Some a)

before_asks : (i : ℕ) (x : StepRecord) (o : Option Access) (turns : List (ℕ × StepRecord)) → x.access ≡ o → AllAsk turns → AllAsk (turn_before o i x turns)
before_asks i x None turns e h k t at = h k t at
before_asks i x (Some a) turns e h zero t at =
    let is : ◌≡◌ {A = ℕ × StepRecord} (i, x) t = same_Some {A = ℕ × StepRecord} (i, x) t at in
    (a, sym (ap (λ (u : ℕ × StepRecord). u.1.access) is) ∙ e)
before_asks i x (Some a) turns e h (suc k) t at = h k t at

all_ask : (i : ℕ) (rs : List StepRecord) → AllAsk (turns_from i rs)
all_ask i [] = λ k t at. absurd (none-some t at)
all_ask i (x ∷ xs) = before_asks i x x.access (turns_from (suc i) xs) refl (all_ask (suc i) xs)

abbrev calls_at : List (ℕ × StepRecord) → List (Access × ℕ)
calls_at [] = []
calls_at (t ∷ turns) = call_before t.1.access t.1.reply (calls_at turns)

before_calls : (i : ℕ) (x : StepRecord) (o : Option Access) (turns : List (ℕ × StepRecord)) (calls : List (Access × ℕ)) → x.access ≡ o → calls_at turns ≡ calls
    → calls_at (turn_before o i x turns) ≡ call_before o x.reply calls
before_calls i x None turns calls e h = h
before_calls i x (Some a) turns calls e h = ap₂ (λ (o : Option Access) (l : List (Access × ℕ)). call_before o x.reply l) e h

calls_are : (i : ℕ) (rs : List StepRecord) → calls_at (turns_from i rs) ≡ calls_in rs
calls_are i [] = refl
calls_are i (x ∷ xs) = before_calls i x x.access (turns_from (suc i) xs) (calls_in xs) refl (calls_are (suc i) xs)

abbrev IsOwn : Event → Type 0
IsOwn e = (e.step.access ≡ Some e.entry.access) × (e.step.reply ≡ e.entry.reply)

abbrev AllOwn : List Event → Type 0
AllOwn events = (k : ℕ) (e : Event) → slice_get events k ≡ Some e → IsOwn e

own_more : (e : Event) (events : List Event) → IsOwn e → AllOwn events → AllOwn (e ∷ events)
own_more e events own h zero x at = subst IsOwn (same_Some e x at) own
own_more e events own h (suc k) x at = h k x at

head_is : {A : Type 0} (x y : A) (xs ys : List A) → x ∷ xs ≡ y ∷ ys → x ≡ y
head_is x y xs ys h = cc

tail_is : {A : Type 0} (x y : A) (xs ys : List A) → x ∷ xs ≡ y ∷ ys → xs ≡ ys
tail_is x y xs ys h = cc

-- the first turn of a core made its first entry
record Made (a : Access) (y : ℕ) (calls : List (Access × ℕ)) (x : ℕ × StepRecord) (turns : List (ℕ × StepRecord)) : Type 0 where
  access : x.1.access ≡ Some a
  reply : x.1.reply ≡ y
  rest : calls ≡ calls_at turns

made_by : (a : Access) (y : ℕ) (calls : List (Access × ℕ)) (x : ℕ × StepRecord) (turns : List (ℕ × StepRecord)) (b : Access) → x.1.access ≡ Some b → (a, y) ∷ calls ≡ calls_at (x ∷ turns) → Made a y calls x turns
made_by a y calls x turns b ask h =
    let both : (a, y) ∷ calls ≡ (b, x.1.reply) ∷ calls_at turns = h ∙ ap (λ (o : Option Access). call_before o x.1.reply (calls_at turns)) ask in
    let first : ◌≡◌ {A = Access × ℕ} (a, y) (b, x.1.reply) = head_is {A = Access × ℕ} (a, y) (b, x.1.reply) calls (calls_at turns) both in
    record {
      access = ask ∙ sym (ap (λ (p : Access × ℕ). Some p.0) first);
      reply = sym (ap (λ (p : Access × ℕ). p.1) first);
      rest = tail_is {A = Access × ℕ} (a, y) (b, x.1.reply) calls (calls_at turns) both;
    }

no_turn : (a : Access) (y : ℕ) (calls : List (Access × ℕ)) → ◌≡◌ {A = List (Access × ℕ)} ((a, y) ∷ calls) [] → ⊥
no_turn a y calls h = let q : suc (length calls) ≡ 0 = ap length h in omega (arith, q)

own_step : (code : ℕ → ℕ) (c : ℕ) (a : Access) (y : ℕ) (es : List Entry) (xs ys : List (ℕ × StepRecord)) → c < 2 → AllAsk xs → AllAsk ys
    → calls_of 0 (entry c a y ∷ es) ≡ calls_at xs → calls_of 1 (entry c a y ∷ es) ≡ calls_at ys
    → ((vs ws : List (ℕ × StepRecord)) → AllAsk vs → AllAsk ws → calls_of 0 es ≡ calls_at vs → calls_of 1 es ≡ calls_at ws → AllOwn (events_from code es vs ws))
    → AllOwn (events_from code (entry c a y ∷ es) xs ys)
own_step code zero a y es [] ys lt p q h g rest = absurd (no_turn a y (calls_of 0 es) h)
own_step code zero a y es (x ∷ xs) ys lt p q h g rest =
    let ask = p 0 x refl in
    let m : Made a y (calls_of 0 es) x xs = made_by a y (calls_of 0 es) x xs ask.0 ask.1 h in
    own_more (event code (entry 0 a y) x) (events_from code es xs ys) (m.access, m.reply) (rest xs ys (λ k t at. p (suc k) t at) q m.rest g)
own_step code (suc zero) a y es xs [] lt p q h g rest = absurd (no_turn a y (calls_of 1 es) g)
own_step code (suc zero) a y es xs (x ∷ ys) lt p q h g rest =
    let ask = q 0 x refl in
    let m : Made a y (calls_of 1 es) x ys = made_by a y (calls_of 1 es) x ys ask.0 ask.1 g in
    own_more (event code (entry 1 a y) x) (events_from code es xs ys) (m.access, m.reply) (rest xs ys p (λ k t at. q (suc k) t at) h m.rest)
own_step code (suc (suc c)) a y es xs ys lt p q h g rest = absurd (omega arith)

own_walk : (code : ℕ → ℕ) (es : List Entry) (xs ys : List (ℕ × StepRecord)) → IsOfCores es → AllAsk xs → AllAsk ys → calls_of 0 es ≡ calls_at xs → calls_of 1 es ≡ calls_at ys → AllOwn (events_from code es xs ys)
own_walk code [] xs ys cores p q h g = λ k e at. absurd (none-some e at)
own_walk code (e ∷ es) xs ys cores p q h g =
    own_step code e.core e.access e.reply es xs ys (cores 0 e refl) p q h g (λ vs ws u v s t. own_walk code es vs ws (λ k x at. cores (suc k) x at) u v s t)

pub records_own : (image : Image) (r : Run) → IsRunOf image r → (k : ℕ) (e : Event) → slice_get (events_of image r) k ≡ Some e → (e.step.access ≡ Some e.entry.access) × (e.step.reply ≡ e.entry.reply)
records_own image r h =
    let z0 = (records_of 0 image r).records in
    let z1 = (records_of 1 image r).records in
    own_walk (code_of image) r.history (turns_from 0 z0) (turns_from 0 z1) h.cores (all_ask 0 z0) (all_ask 0 z1)
    (h.calls0 ∙ sym (calls_are 0 z0)) (h.calls1 ∙ sym (calls_are 0 z1))
