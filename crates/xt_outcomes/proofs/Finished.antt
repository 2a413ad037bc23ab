-- A run whose order has ended both cores ends there.
use Rattle.std.proofs.Common.{◌≡◌, ℕ, ◌≤◌, ◌==◌, true, false, List, ◌++◌, length, refl, sym, ap, ◌∙◌, arith, eqb-true}
use Rattle.std.specs.Prelude.{map, replicate}
use Rattle.std.proofs.lemmas.Bool.{and_parts, true≢false}
use Rattle.xt_map.specs.Serving.{number_at}
use Rattle.xt_trace.specs.Chip.{Chip}
use Rattle.xt_trace.specs.Runs.{Opening, world_at_start}
use Rattle.xt_trace.specs.Traces.{has_stopped, stop_of}
use Rattle.xt_trace.specs.Worlds.{World, advance, finished_world}
use Rattle.xt_exec.specs.State.{State}
use Rattle.xt_outcomes.specs.Beyond.{AreSameButForTurns}
use Rattle.xt_outcomes.specs.Listing.{IsReal}
use Rattle.xt_outcomes.specs.Orders.{with_both, with_turns, world_after}
use Rattle.xt_outcomes.specs.Outcomes.{outcome_in}
use Rattle.xt_outcomes.specs.RunsEnd.{RunsEndInTheirOutcomes, world_at_end}
use Rattle.xt_outcomes.specs.declared.listing.Found.{Found}
use Rattle.xt_outcomes.proofs.Beyond.{advances}

-- no turn is left
none_left : (P : Chip State) (w : World State) → w.core0.left ≡ 0 → w.core1.left ≡ 0 → finished_world P w ≡ w
none_left P w e f = λ i. advance P (replicate (e i) 0 ++ replicate (f i) 1) w

same_outcome : (addresses : List ℕ) (v w : World State) → AreSameButForTurns v w → outcome_in addresses v ≡ outcome_in addresses w
same_outcome addresses v w h = λ i. record {
  sent = (h.line i).memory.sent;
  stop0 = stop_of (h.core0.records i);
  pc0 = (h.core0.state i).control.pc;
  stop1 = stop_of (h.core1.records i);
  pc1 = (h.core1.state i).control.pc;
  words = map (λ (a : ℕ). number_at (h.line i).memory a 4) addresses;
}

timed_end : (P : Chip State) (o : Opening State) (addresses : List ℕ) (x : Found) → IsReal P true o addresses x → outcome_in addresses (world_at_end P o x.order.items) ≡ x.outcome
timed_end P o addresses x h =
    let w = advance P x.order.items (world_at_start o) in
    let ended = and_parts (w.core0.left == 0) (w.core1.left == 0) h.ended in
    ap (outcome_in addresses) (none_left P w (eqb-true w.core0.left 0 ended.0) (eqb-true w.core1.left 0 ended.1)) ∙ sym h.outcome

untimed_end : (P : Chip State) (o : Opening State) (addresses : List ℕ) (x : Found) (n m : ℕ) → length x.order.items ≤ n → length x.order.items ≤ m → IsReal P false o addresses x
    → outcome_in addresses (world_at_end P (with_both o n m) x.order.items) ≡ x.outcome
untimed_end P o addresses x n m en em h =
    let order = x.order.items in
    let v = advance P order (world_at_start (with_both o n m)) in
    let w = world_after P false o order in
    let same = advances P 0 order (world_at_start (with_both o n m)) (world_at_start (with_turns o (length order)))
    (record { line = refl; core0 = record { state = refl; records = refl }; core1 = record { state = refl; records = refl } })
    ((λ s. absurd (true≢false (sym s)), λ s. omega arith), (λ s. absurd (true≢false (sym s)), λ s. omega arith))
    ((λ s. absurd (true≢false (sym s)), λ s. omega arith), (λ s. absurd (true≢false (sym s)), λ s. omega arith)) in
    let ended = and_parts (has_stopped w.core0.records) (has_stopped w.core1.records) h.ended in
    let left0 : v.core0.left ≡ 0 = same.1.0.0 (ap has_stopped same.0.core0.records ∙ ended.0) in
    let left1 : v.core1.left ≡ 0 = same.1.1.0 (ap has_stopped same.0.core1.records ∙ ended.1) in
    ap (outcome_in addresses) (none_left P v left0 left1) ∙ same_outcome addresses v w same.0 ∙ sym h.outcome

pub runs_end : RunsEndInTheirOutcomes
runs_end P o addresses x = record { timed = timed_end P o addresses x; untimed = untimed_end P o addresses x }
