-- The schedule of a run, entry by entry.
use Rattle.std.proofs.Common.{◌≡◌, ℕ, zero, suc, ◌-◌, ◌<◌, Bool, cond, Some, List, [], ◌∷◌, ◌++◌, All, length, replicate, slice_index, drop, refl, sym, ap, ◌∙◌, subst, arith}
use Rattle.std.specs.Borrow.{Bor}
use Rattle.std.specs.Iterator.{YieldsFirst}
use Rattle.std.proofs.lemmas.Bool.{eq-eqb, ne_eqb}
use Rattle.std.proofs.lemmas.List.Elements.{All-append, All-replicate}
use Rattle.xt_map.specs.declared.access.Entry.{Entry}
use Rattle.xt_map.specs.History.{IsOfCores, calls_of}
use Rattle.xt_trace.specs.declared.run.Run.{Run}
use Rattle.xt_trace.specs.Schedule.{cores_of, schedule_from}
use Rattle.xt_trace.specs.Short.{IsRising}
use Rattle.xt_discipline.specs.declared.order.ScheduleIter.{ScheduleIter}
use Rattle.xt_discipline.specs.declared.order.Stretch.{Stretch}
use Rattle.xt_discipline.specs.Schedules.{schedule_in}
use Rattle.xt_discipline.specs.Ordered.{AreLeft, Comes, HasAccess, IsOrder, IsPiece, IsUpto, turns_behind, turns_left}

-- ---- every number is 0 or 1

all_of_cores : (cs : List ℕ) (i : ℕ) (ps : List ℕ) (n j : ℕ) (qs : List ℕ) (m : ℕ) → All (λ c. c < 2) (schedule_from cs i ps n j qs m)
all_of_cores [] i ps n j qs m =
    All-append (λ c. c < 2) (replicate (n - i) 0) (replicate (m - j) 1) (All-replicate (λ c. c < 2) (n - i) 0 (omega arith)) (All-replicate (λ c. c < 2) (m - j) 1 (omega arith))
all_of_cores (zero ∷ cs) i [] n j qs m = All-replicate (λ c. c < 2) 0 0 (omega arith)
all_of_cores (zero ∷ cs) i (p ∷ ps) n j qs m =
    All-append (λ c. c < 2) (replicate (suc p - i) 0) (schedule_from cs (suc p) ps n j qs m) (All-replicate (λ c. c < 2) (suc p - i) 0 (omega arith)) (all_of_cores cs (suc p) ps n j qs m)
all_of_cores (suc c ∷ cs) i ps n j [] m = All-replicate (λ c. c < 2) 0 0 (omega arith)
all_of_cores (suc c ∷ cs) i ps n j (q ∷ qs) m =
    All-append (λ c. c < 2) (replicate (suc q - j) 1) (schedule_from cs i ps n (suc q) qs m) (All-replicate (λ c. c < 2) (suc q - j) 1 (omega arith)) (all_of_cores cs i ps n (suc q) qs m)

pub of_cores : (r : Run) → All (λ c. c < 2) (schedule_in r)
of_cores r = all_of_cores (cores_of r.history) 0 r.trace0.places r.trace0.count 0 r.trace1.places r.trace1.count

-- ---- one entry

calls_own : (core : ℕ) (e : Entry) (rest : List Entry) → e.core ≡ core → length (calls_of core (e ∷ rest)) ≡ suc (length (calls_of core rest))
calls_own core e rest same =
    ap (λ (b : Bool). length (cond b ((e.access, e.reply) ∷ calls_of core rest) (calls_of core rest))) (eq-eqb e.core core same)

calls_other : (core : ℕ) (e : Entry) (rest : List Entry) → (e.core ≡ core → ⊥) → length (calls_of core (e ∷ rest)) ≡ length (calls_of core rest)
calls_other core e rest other =
    ap (λ (b : Bool). length (cond b ((e.access, e.reply) ∷ calls_of core rest) (calls_of core rest))) (ne_eqb e.core core other)

-- ---- the next access of a core
first : (ps : List ℕ) → 0 < length ps → ps ≡ slice_index ps 0 ∷ drop 1 ps
first [] more = absurd (omega (arith, more))
first (p ∷ ps) more = refl

pub access : (es : List Entry) (e : Entry) (rest : List Entry) (core : ℕ) (s : Stretch) → es ≡ e ∷ rest → e.core ≡ core → Comes es core s → HasAccess s
access es e rest core s is same h =
    let n : length s.places.now ≡ suc (length (calls_of core rest)) = sym h.calls ∙ ap (λ (l : List Entry). length (calls_of core l)) is ∙ calls_own core e rest same in
    let more : 0 < length s.places.now = omega (arith, n) in
    let rise = subst (λ (ps : List ℕ). IsRising s.past ps s.count) (first s.places.now more) h.rise in
    record { more = more; low = rise.0; high = rise.1 }

own : (e : Entry) (rest : List Entry) (core : ℕ) (s t : Stretch) (times : ℕ) → e.core ≡ core → IsUpto s t times → Comes (e ∷ rest) core s → Comes rest core t
own e rest core s t times same u h =
    let rise = subst (λ (ps : List ℕ). IsRising s.past ps s.count) u.split h.rise in
    let high : slice_index s.places.now 0 < s.count = rise.1 in
    let places : length s.places.now ≡ suc (length t.places.now) = ap (λ (l : List ℕ). length l) u.split in
    record { within = omega (arith, high, u.past, u.count); rise = rw (u.past, u.count) rise.2; calls = omega (arith, calls_own core e rest same, h.calls, places) }

other : (e : Entry) (rest : List Entry) (core : ℕ) (s : Stretch) → (e.core ≡ core → ⊥) → Comes (e ∷ rest) core s → Comes rest core s
other e rest core s not h =
    record { within = h.within; rise = h.rise; calls = sym (calls_other core e rest not) ∙ h.calls }

-- ---- the pieces of the order
pub zero_entry : (o : ScheduleIter) (e : Entry) (rest : Bor (List Entry)) (z : Stretch) (times : ℕ) → IsOrder o → o.entries.now ≡ e ∷ rest.now → e.core ≡ 0 → IsUpto o.zero z times
    → IsPiece o (record o { entries = rest; zero = z }) 0 times
zero_entry o e rest z times h is same u =
    let left : AreLeft (e ∷ rest.now) o.zero o.one = subst (λ (es : List Entry). AreLeft es o.zero o.one) is h in
    record {
      order = record {
        cores = λ k x. left.cores (suc k) x;
        zero = own e rest.now 0 o.zero z times same u left.zero;
        one = other e rest.now 1 o.one (λ at. let no : 0 ≡ 1 = sym same ∙ at in omega (arith, no)) left.one;
      };
      turns = rw (is, same, u.split, u.times_are, u.past, u.count) refl;
      none = λ none. absurd (omega (arith, u.some, none));
    }

pub is_one : (es : List Entry) (e : Entry) (rest : List Entry) → es ≡ e ∷ rest → IsOfCores es → (e.core ≡ 0 → ⊥) → e.core ≡ 1
is_one es e rest is cores not =
    let own_core = subst (λ (l : List Entry). IsOfCores l) is cores in
    let two : e.core < 2 = own_core 0 e refl in
    omega (arith, two, not)

pub one_entry : (o : ScheduleIter) (e : Entry) (rest : Bor (List Entry)) (w : Stretch) (times : ℕ) → IsOrder o → o.entries.now ≡ e ∷ rest.now → (e.core ≡ 0 → ⊥) → IsUpto o.one w times
    → IsPiece o (record o { entries = rest; one = w }) 1 times
one_entry o e rest w times h is not u =
    let left : AreLeft (e ∷ rest.now) o.zero o.one = subst (λ (es : List Entry). AreLeft es o.zero o.one) is h in
    let same = is_one (e ∷ rest.now) e rest.now refl left.cores not in
    record {
      order = record {
        cores = λ k x. left.cores (suc k) x;
        zero = other e rest.now 0 o.zero not left.zero;
        one = own e rest.now 1 o.one w times same u left.one;
      };
      turns = rw (is, same, u.split, u.times_are, u.past, u.count) refl;
      none = λ none. absurd (omega (arith, u.some, none));
    }

-- ---- the next turn
pub refilled : (old new : ScheduleIter) (core times : ℕ) → old.times ≡ 0 → IsPiece old new core times → turns_left old ≡ replicate times core ++ turns_behind new
refilled old new core times none p = ap (λ (t : ℕ). replicate t old.core ++ turns_behind old) none ∙ p.turns

pub yields : (old mid : ScheduleIter) → turns_left old ≡ turns_left mid → 0 < mid.times → YieldsFirst turns_left old (Some mid.core) (record mid { times = mid.times - 1 })
yields old mid same some =
    let n : mid.times ≡ suc (mid.times - 1) = omega (arith, some) in
    same ∙ ap (λ (t : ℕ). replicate t mid.core ++ turns_behind mid) n
