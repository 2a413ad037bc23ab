-- What is counted turn by turn is what is counted at once.
use Rattle.std.proofs.Common.{◌≡◌, ℕ, suc, ◌+◌, ◌-◌, ◌<◌, ◌≤◌, ◌^◌, Bool, true, false, ◌&&◌, ◌||◌, if◌then◌else◌, Option, Some, None, List, [], ◌∷◌, length, refl, sym, ap, subst, ◌∙◌, arith}
use Rattle.std.specs.Prelude.{◌==◌}
use Rattle.std.specs.Option.{unwrap_or}
use Rattle.std.proofs.lemmas.Bool.Decides.{nat_tests}
use Rattle.xt_trace.specs.declared.record.StepRecord.{StepRecord}
use Rattle.xt_trace.specs.Left.{first_of, rest_of}
use Rattle.xt_events.specs.declared.tally.Tally.{Tally}
use Rattle.xt_events.specs.declared.turn.Turn.{Turn}
use Rattle.xt_events.specs.Counts.{count, executes, goes_to, is_executed, is_raised, raises, takes, tally, target_at, turns, unless_none}
use Rattle.xt_events.specs.CountedTurns.{IsSmall, tally_with_turn, is_counted, more, tally_after_turn, past, empty_tally}

-- ---- two counts together

tally_with : ℕ → ℕ → Option ℕ → ℕ → Tally
tally_with e r target k = record { executed = e; raised = r; target = target; taken = k }

abbrev joined : Option Tally → Tally → Option Tally
joined None y = unless_none y
joined (Some z) y = Some (record { executed = z.executed + y.executed; raised = z.raised + y.raised; target = z.target; taken = z.taken + y.taken })

abbrev HasTarget : Option ℕ → Option Tally → Type 0
HasTarget target None = Unit {0}
HasTarget target (Some z) = z.target ≡ target

same_fields : (e f r s k l : ℕ) (target : Option ℕ) → e ≡ f → r ≡ s → k ≡ l
    → ◌≡◌ {A = Option Tally} (Some (record { executed = e; raised = r; target = target; taken = k })) (Some (record { executed = f; raised = s; target = target; taken = l }))
same_fields e f r s k l target p q t = rw (p, q, t) refl

more_first : (b : Bool) (m n : ℕ) → more b m + n ≡ m + (if b then suc n else n)
more_first true m n = omega arith
more_first false m n = refl

from_none : (n : ℕ) → 0 + n ≡ n
from_none n = omega arith

none_and : (b : Bool) → (b && false) ≡ false
none_and true = refl
none_and false = refl

-- what one turn did is not nothing
no_zero : (n : ℕ) → (suc n == 0) ≡ false
no_zero n = grind (arith, nat_tests)

unless_some : (b : Bool) (y : Tally) → b ≡ false → ◌≡◌ {A = Option Tally} (Some y) (if b then None else Some y)
unless_some true y e = absurd cc
unless_some false y e = refl

some_executed : (e r : ℕ) (target : Option ℕ) (k : ℕ) → ◌≡◌ {A = Option Tally} (Some (record { executed = suc e; raised = r; target = target; taken = k })) (unless_none (record { executed = suc e; raised = r; target = target; taken = k }))
some_executed e r target k =
    unless_some (suc e == 0 && r == 0) (record { executed = suc e; raised = r; target = target; taken = k }) (ap (λ (b : Bool). b && r == 0) (no_zero e))

some_raised : (e r : ℕ) (target : Option ℕ) (k : ℕ) → ◌≡◌ {A = Option Tally} (Some (record { executed = e; raised = suc r; target = target; taken = k })) (unless_none (record { executed = e; raised = suc r; target = target; taken = k }))
some_raised e r target k =
    unless_some (e == 0 && suc r == 0) (record { executed = e; raised = suc r; target = target; taken = k }) (ap (λ (b : Bool). e == 0 && b) (no_zero r) ∙ none_and (e == 0))

-- ---- one turn more

some_case : (e r : Bool) (next : ℕ) (target : Option ℕ) (z : Tally) (E R K : ℕ) → z.target ≡ target
    → ◌≡◌ {A = Option Tally}
    (Some (record { executed = more e z.executed + E; raised = more r z.raised + R; target = z.target; taken = more (e && goes_to z.target next) z.taken + K }))
    (Some (record { executed = z.executed + (if e then suc E else E); raised = z.raised + (if r then suc R else R); target = z.target; taken = z.taken + (if e && goes_to target next then suc K else K) }))
some_case e r next target z E R K h =
    same_fields (more e z.executed + E) (z.executed + (if e then suc E else E)) (more r z.raised + R) (z.raised + (if r then suc R else R))
    (more (e && goes_to z.target next) z.taken + K) (z.taken + (if e && goes_to target next then suc K else K)) z.target
    (more_first e z.executed E) (more_first r z.raised R)
    (more_first (e && goes_to z.target next) z.taken K ∙ ap (λ (t : Option ℕ). z.taken + (if e && goes_to t next then suc K else K)) h)

first_case : (e r g : Bool) (target : Option ℕ) (E R K : ℕ)
    → ◌≡◌ {A = Option Tally}
    (Some (record { executed = more e 0 + E; raised = more r 0 + R; target = target; taken = more g 0 + K }))
    (Some (record { executed = if e then suc E else E; raised = if r then suc R else R; target = target; taken = if g then suc K else K }))
first_case e r g target E R K =
    same_fields (more e 0 + E) (if e then suc E else E) (more r 0 + R) (if r then suc R else R) (more g 0 + K) (if g then suc K else K) target
    (more_first e 0 E ∙ from_none (if e then suc E else E)) (more_first r 0 R ∙ from_none (if r then suc R else R)) (more_first g 0 K ∙ from_none (if g then suc K else K))

-- by whether the turn is at the address, executed the instruction there, or raised an exception
step_by : (at e r : Bool) (next : ℕ) (target : Option ℕ) (o : Option Tally) (E R K : ℕ) → HasTarget target o
    → joined
    (if at && (e || r)
    then Some (record { executed = more e (unwrap_or o (empty_tally target)).executed; raised = more r (unwrap_or o (empty_tally target)).raised; target = (unwrap_or o (empty_tally target)).target; taken = more (e && goes_to (unwrap_or o (empty_tally target)).target next) (unwrap_or o (empty_tally target)).taken })
    else o)
    (record { executed = E; raised = R; target = target; taken = K })
    ≡ joined o (record { executed = if at && e then suc E else E; raised = if at && r then suc R else R; target = target; taken = if (at && e) && goes_to target next then suc K else K })
step_by false e r next target o E R K h = refl
step_by true false false next target o E R K h = refl
step_by true true r next target None E R K h =
    first_case true r (goes_to target next) target E R K
    ∙ some_executed E (if r then suc R else R) target (if goes_to target next then suc K else K)
step_by true false true next target None E R K h =
    first_case false true false target E R K
    ∙ some_raised E R target K
step_by true true r next target (Some z) E R K h = some_case true r next target z E R K h
step_by true false true next target (Some z) E R K h = some_case false true next target z E R K h

target_by : (b : Bool) (t : Turn) (target : Option ℕ) (o : Option Tally) → HasTarget target o → HasTarget target (if b then Some (tally_with_turn t (unwrap_or o (empty_tally target))) else o)
target_by false t target o h = h
target_by true t target None h = refl
target_by true t target (Some z) h = h

more_none : (n : ℕ) → n ≡ n + 0
more_none n = omega arith

ended : (code : ℕ → ℕ) (a : ℕ) (o : Option Tally) → o ≡ joined o (tally code [] a)
ended code a None = refl
ended code a (Some z) =
    same_fields z.executed (z.executed + 0) z.raised (z.raised + 0) z.taken (z.taken + 0) z.target (more_none z.executed) (more_none z.raised) (more_none z.taken)

past_joined : (code : ℕ → ℕ) (a : ℕ) (o : Option Tally) (ts : List Turn) → HasTarget (target_at code a) o → past code a o ts ≡ joined o (tally code ts a)
past_joined code a o [] h = ended code a o
past_joined code a o (t ∷ ts) h =
    past_joined code a (tally_after_turn code a t o) ts (target_by (t.pc == a && is_counted t.kind) t (target_at code a) o h)
    ∙ step_by (t.pc == a) (is_executed t.kind) (is_raised t.kind) t.next (target_at code a) o (count (executes a) ts) (count (raises a) ts) (count (takes (target_at code a) a) ts) h

pub past_all : (code : ℕ → ℕ) (a : ℕ) (ts : List Turn) → past code a None ts ≡ unless_none (tally code ts a)
past_all code a ts = past_joined code a None ts tt

-- ---- the numbers stay small

small_more : (b : Bool) (m n : ℕ) → m < n → more b m < suc n
small_more true m n h = omega (arith, h)
small_more false m n h = omega (arith, h)

small_by : (b : Bool) (t : Turn) (target : Option ℕ) (o : Option Tally) (n : ℕ) → 0 < n → IsSmall n o → IsSmall (suc n) (if b then Some (tally_with_turn t (unwrap_or o (empty_tally target))) else o)
small_by true t target None n some h = (small_more (is_executed t.kind) 0 n some, small_more (is_raised t.kind) 0 n some, small_more (is_executed t.kind && goes_to target t.next) 0 n some)
small_by true t target (Some z) n some h = (small_more (is_executed t.kind) z.executed n h.0, small_more (is_raised t.kind) z.raised n h.1, small_more (is_executed t.kind && goes_to z.target t.next) z.taken n h.2)
small_by false t target None n some h = tt
small_by false t target (Some z) n some h = (small_more false z.executed n h.0, small_more false z.raised n h.1, small_more false z.taken n h.2)

pub small_noted : (code : ℕ → ℕ) (a : ℕ) (t : Turn) (o : Option Tally) (n : ℕ) → 0 < n → IsSmall n o → IsSmall (suc n) (tally_after_turn code a t o)
small_noted code a t o n some h = small_by (t.pc == a && is_counted t.kind) t (target_at code a) o n some h

less_le : (m n k : ℕ) → m < n → n ≤ k → m < k
less_le m n k h l = omega (arith, h, l)

pub small_below : (o : Option Tally) (n k : ℕ) → n ≤ k → IsSmall n o → IsSmall k o
small_below None n k l h = tt
small_below (Some z) n k l h = (less_le z.executed n k h.0 l, less_le z.raised n k h.1 l, less_le z.taken n k h.2 l)

-- ---- records that are taken one by one

pub taken_first : (xs : List StepRecord) (x : StepRecord) → ◌≡◌ {A = Option StepRecord} (Some x) (first_of xs) → xs ≡ x ∷ rest_of xs
taken_first [] x e = absurd cc
taken_first (y ∷ ys) x e =
    let both : ◌≡◌ {A = Option StepRecord} (Some x) (Some y) = e in
    let same : y ≡ x = cc in
    ap (λ (z : StepRecord). z ∷ ys) same

pub taken_none : (xs : List StepRecord) → ◌≡◌ {A = Option StepRecord} None (first_of xs) → xs ≡ []
taken_none [] e = refl
taken_none (y ∷ ys) e = absurd cc

rest_is : (xs rest : List StepRecord) (x : StepRecord) → ◌≡◌ {A = Option StepRecord} (Some x) (first_of xs) → rest ≡ rest_of xs → xs ≡ x ∷ rest
rest_is xs rest x first is = taken_first xs x first ∙ ap (λ (l : List StepRecord). x ∷ l) (sym is)

pub opening : (code : ℕ → ℕ) (a : ℕ) (o : Option Tally) (xs rest : List StepRecord) (x : StepRecord) (last : ℕ) → o ≡ None → ◌≡◌ {A = Option StepRecord} (Some x) (first_of xs) → rest ≡ rest_of xs
    → past code a o (turns (x ∷ rest) last) ≡ past code a None (turns xs last)
opening code a o xs rest x last none first is =
    ap (λ (p : Option Tally). past code a p (turns (x ∷ rest) last)) none
    ∙ ap (λ (l : List StepRecord). past code a None (turns l last)) (sym (rest_is xs rest x first is))

pub onward : (code : ℕ → ℕ) (a : ℕ) (old new : Option Tally) (here after : StepRecord) (left rest : List StepRecord) (last : ℕ) (k : Option Tally)
    → past code a old (turns (here ∷ left) last) ≡ k → ◌≡◌ {A = Option StepRecord} (Some after) (first_of left) → rest ≡ rest_of left
    → new ≡ tally_after_turn code a (record { pc = here.pc; kind = here.kind; next = after.pc }) old → past code a new (turns (after ∷ rest) last) ≡ k
onward code a old new here after left rest last k kept first is noted_so =
    ap (λ (p : Option Tally). past code a p (turns (after ∷ rest) last)) noted_so
    ∙ (ap (λ (l : List StepRecord). past code a old (turns (here ∷ l) last)) (sym (rest_is left rest after first is)) ∙ kept)

shorter : (n m k : ℕ) → n ≡ suc m → n < k → m < k
shorter n m k e h = omega (arith, e, h)

pub fewer_on : (left rest : List StepRecord) (after : StepRecord) (n : ℕ) → ◌≡◌ {A = Option StepRecord} (Some after) (first_of left) → rest ≡ rest_of left → length left < n → length rest < n
fewer_on left rest after n first is h =
    shorter (length left) (length rest) n (ap (λ (l : List StepRecord). length l) (rest_is left rest after first is)) h

one_more : (n m k : ℕ) → n ≡ suc m → n < k → suc (k - n) ≤ k - m
one_more n m k e h = omega (arith, e, h)

some_left : (n k : ℕ) → n < k → 0 < k - n
some_left n k h = omega (arith, h)

pub small_on : (code : ℕ → ℕ) (a : ℕ) (t : Turn) (old new : Option Tally) (left rest : List StepRecord) (after : StepRecord) (n : ℕ) → ◌≡◌ {A = Option StepRecord} (Some after) (first_of left) → rest ≡ rest_of left → length left < n
    → IsSmall (n - length left) old → new ≡ tally_after_turn code a t old → IsSmall (n - length rest) new
small_on code a t old new left rest after n first is h small noted_so =
    let e = ap (λ (l : List StepRecord). length l) (rest_is left rest after first is) in
    let next = small_noted code a t old (n - length left) (some_left (length left) n h) small in
    subst (IsSmall (n - length rest)) (sym noted_so) (small_below (tally_after_turn code a t old) (suc (n - length left)) (n - length rest) (one_more (length left) (length rest) n e h) next)

few : (m n : ℕ) → n < 2 ^ 32 → n - m ≤ 4294967295
few m n h = omega (arith, h)

pub small_still : (o : Option Tally) (m n : ℕ) → n < 2 ^ 32 → IsSmall (n - m) o → IsSmall 4294967295 o
small_still o m n h small = small_below o (n - m) 4294967295 (few m n h) small

pub small_first : (o : Option Tally) (n : ℕ) → o ≡ None → IsSmall n o
small_first o n none = subst (IsSmall n) (sym none) tt

pub closing : (code : ℕ → ℕ) (a : ℕ) (old new : Option Tally) (here : StepRecord) (left xs : List StepRecord) (last : ℕ)
    → past code a old (turns (here ∷ left) last) ≡ past code a None (turns xs last) → ◌≡◌ {A = Option StepRecord} None (first_of left)
    → new ≡ tally_after_turn code a (record { pc = here.pc; kind = here.kind; next = last }) old → new ≡ unless_none (tally code (turns xs last) a)
closing code a old new here left xs last kept none noted_so =
    noted_so ∙ (ap (λ (l : List StepRecord). past code a old (turns (here ∷ l) last)) (sym (taken_none left none)) ∙ (kept ∙ past_all code a (turns xs last)))

pub nothing : (code : ℕ → ℕ) (a : ℕ) (o : Option Tally) (xs : List StepRecord) (last : ℕ) → o ≡ None → ◌≡◌ {A = Option StepRecord} None (first_of xs) → o ≡ unless_none (tally code (turns xs last) a)
nothing code a o xs last none first = none ∙ ap (λ (l : List StepRecord). unless_none (tally code (turns l last) a)) (sym (taken_none xs first))

longer : (m n : ℕ) → n ≡ suc m → m < n
longer m n e = omega (arith, e)

pub shorter_first : (xs rest : List StepRecord) (x : StepRecord) → ◌≡◌ {A = Option StepRecord} (Some x) (first_of xs) → rest ≡ rest_of xs → length rest < length xs
shorter_first xs rest x first is = longer (length rest) (length xs) (ap (λ (l : List StepRecord). length l) (rest_is xs rest x first is))
