-- A core that is driven over its seat, turn by turn.
use Rattle.std.proofs.Common.{◌≡◌, ℕ, suc, ◌+◌, ◌-◌, ◌<◌, Bool, true, false, ◌||◌, Option, Some, None, List, [], ◌∷◌, ◌++◌, length, refl, sym, ap, ◌∙◌, append_assoc, arith}
use Rattle.std.proofs.lemmas.List.{append-nil, length_push}
use Rattle.xt_map.specs.declared.access.Access.{Access}
use Rattle.xt_trace.specs.Calls.{calls_in, is_stop}
use Rattle.xt_trace.specs.Driven.{replies_in}
use Rattle.xt_trace.specs.Schedule.{place_before, places_from}
use Rattle.xt_trace.specs.Traces.{Traced, has_stopped}
use Rattle.xt_trace.specs.Runs.{traced_so_far}
use Rattle.xt_trace.specs.Worlds.{Core, core_past, left_past}
use Rattle.xt_trace.proofs.Driven.{drove_none, drove_local, drove_call, drove_ended}
use Rattle.xt_trace.proofs.Short.{places_push, stopped_push}
use Rattle.xt_exec.specs.declared.plans.Pending.{Pending}
use Rattle.xt_exec.specs.Chips.{processor}
use Rattle.xt_exec.specs.State.{State}
use Rattle.xt_exec.specs.Turn.{demand, turn}
use Rattle.xt_core.specs.Cores.{CoreState, core_after_turn}
use Rattle.xt_machine.specs.Driving.{WasDriven, core_after_trace, trace_left}
use Rattle.xt_machine.specs.Going.{IsGoing, past, core_before_turns}

or_assoc : (a b c : Bool) → ((a || b) || c) ≡ (a || (b || c))
or_assoc true b c = refl
or_assoc false b c = refl

or_false : (a : Bool) → a ≡ (a || false)
or_false true = refl
or_false false = refl

-- what a core keeps of its turns, from its parts
abbrev kept_from : CoreState → State → ℕ → Bool → ℕ → List ℕ → CoreState
kept_from before state left stopped count places =
    record before { state = state; waiting = None; left = left; stopped = stopped; count = count; places = places }

turned_past : (code : ℕ → ℕ) (before : CoreState) (k : Core State) (n r : ℕ) → k.left ≡ suc n → core_after_turn code r (past k before) ≡ past (core_past (processor code) k n r) before
turned_past code before k n r left =
    let t = turn code k.state r in
    let from : ℕ → Bool → ℕ → List ℕ → CoreState = λ left stopped count places. kept_from before t.1 left stopped count places in
    let stopped : ((before.stopped || has_stopped k.records) || is_stop t.0.kind) ≡ (before.stopped || has_stopped (k.records ++ t.0 ∷ [])) =
    or_assoc before.stopped (has_stopped k.records) (is_stop t.0.kind) ∙ ap (λ (b : Bool). before.stopped || b) (sym (stopped_push k.records t.0)) in
    let count : before.count + length k.records + 1 ≡ before.count + length (k.records ++ t.0 ∷ []) = omega (arith, length_push k.records t.0) in
    let places : (before.places ++ places_from before.count k.records) ++ place_before t.0.access (before.count + length k.records) []
    ≡ before.places ++ places_from before.count (k.records ++ t.0 ∷ []) =
    append_assoc before.places (places_from before.count k.records) (place_before t.0.access (before.count + length k.records) [])
    ∙ ap (λ (l : List ℕ). before.places ++ l) (sym (places_push before.count k.records t.0)) in
    ap (λ (l : ℕ). from l ((before.stopped || has_stopped k.records) || is_stop t.0.kind) (before.count + length k.records + 1) ((before.places ++ places_from before.count k.records) ++ place_before t.0.access (before.count + length k.records) [])) (ap (left_past t.0) (let is : k.left - 1 ≡ n = omega arith in is))
    ∙ ap (λ (b : Bool). from (left_past t.0 n) b (before.count + length k.records + 1) ((before.places ++ places_from before.count k.records) ++ place_before t.0.access (before.count + length k.records) [])) stopped
    ∙ ap (λ (c : ℕ). from (left_past t.0 n) (before.stopped || has_stopped (k.records ++ t.0 ∷ [])) c ((before.places ++ places_from before.count k.records) ++ place_before t.0.access (before.count + length k.records) [])) count
    ∙ ap (from (left_past t.0 n) (before.stopped || has_stopped (k.records ++ t.0 ∷ [])) (before.count + length (k.records ++ t.0 ∷ []))) places

pub going_none : (code : ℕ → ℕ) (k : CoreState) (list : List (Access × ℕ)) → k.waiting ≡ None → IsGoing code k k list list
going_none code k list free =
    let from : Option Pending → Bool → ℕ → List ℕ → CoreState = λ waiting stopped count places. record k { waiting = waiting; stopped = stopped; count = count; places = places } in
    record {
      made = [];
      core = core_before_turns k;
      list = sym (append-nil list);
      now_is = ap (λ (w : Option Pending). from w k.stopped k.count k.places) free
          ∙ ap (λ (b : Bool). from None b k.count k.places) (or_false k.stopped)
          ∙ ap (λ (c : ℕ). from None (k.stopped || false) c k.places) (let is : k.count ≡ k.count + 0 = omega arith in is)
          ∙ ap (from None (k.stopped || false) (k.count + 0)) (sym (append-nil k.places));
      drove = drove_none (processor code) (core_before_turns k);
    }

pub going_local : (code : ℕ → ℕ) (before k k' : CoreState) (old new : List (Access × ℕ)) → 0 < k.left → demand code k.state ≡ None → k' ≡ core_after_turn code 0 k
    → IsGoing code before k old new → IsGoing code before k' old new
going_local code before k k' old new some e is h =
    let n = k.left - 1 in
    let left : h.core.left ≡ suc n = (let same : k.left ≡ h.core.left = ap (λ (x : CoreState). x.left) h.now_is in omega arith) in
    let asks : demand code h.core.state ≡ None = sym (ap (λ (x : CoreState). demand code x.state) h.now_is) ∙ e in
    record {
      made = h.made;
      core = core_past (processor code) h.core n 0;
      list = h.list;
      now_is = is ∙ ap (core_after_turn code 0) h.now_is ∙ turned_past code before h.core n 0 left;
      drove = drove_local (processor code) (core_before_turns before) h.core h.made n left asks h.drove;
    }

pub going_call : (code : ℕ → ℕ) (before k k' : CoreState) (old new new' : List (Access × ℕ)) (a : Access) (r : ℕ) → 0 < k.left → demand code k.state ≡ Some a
    → k' ≡ core_after_turn code r k → new' ≡ new ++ (a, r) ∷ [] → IsGoing code before k old new → IsGoing code before k' old new'
going_call code before k k' old new new' a r some e is grown h =
    let n = k.left - 1 in
    let left : h.core.left ≡ suc n = (let same : k.left ≡ h.core.left = ap (λ (x : CoreState). x.left) h.now_is in omega arith) in
    let asks : demand code h.core.state ≡ Some a = sym (ap (λ (x : CoreState). demand code x.state) h.now_is) ∙ e in
    record {
      made = h.made ++ (a, r) ∷ [];
      core = core_past (processor code) h.core n r;
      list = grown ∙ ap (λ (l : List (Access × ℕ)). l ++ (a, r) ∷ []) h.list ∙ append_assoc old h.made ((a, r) ∷ []);
      now_is = is ∙ ap (core_after_turn code r) h.now_is ∙ turned_past code before h.core n r left;
      drove = drove_call (processor code) (core_before_turns before) h.core h.made n a r left asks h.drove;
    }

-- at its end it was driven
pub going_ended : (code : ℕ → ℕ) (before k : CoreState) (old new : List (Access × ℕ)) → k.left ≡ 0 → IsGoing code before k old new → WasDriven code before k old new
going_ended code before k old new none h =
    let left : h.core.left ≡ 0 = sym (ap (λ (x : CoreState). x.left) h.now_is) ∙ none in
    let z = trace_left code before (replies_in h.made) in
    let is : traced_so_far h.core ≡ z = drove_ended (processor code) before.state before.left h.core h.made left h.drove in
    record {
      made = h.made;
      list = h.list;
      core = h.now_is
          ∙ ap (λ (l : ℕ). kept_from before h.core.state l (before.stopped || has_stopped h.core.records) (before.count + length h.core.records) (before.places ++ places_from before.count h.core.records)) left
          ∙ ap (core_after_trace before) is;
      calls = sym h.drove.calls ∙ ap (λ (x : Traced State). calls_in x.records) is;
    }
