-- A core of a search that has ended makes no turn.
use Rattle.std.proofs.Common.{◌≡◌, ℕ, zero, suc, Bool, true, false, ◌&&◌, ◌||◌, not, List, refl, ap, ◌∙◌}
use Rattle.std.specs.Prelude.{◌==◌}
use Rattle.xt_exec.specs.Chips.{processor}
use Rattle.xt_exec.specs.State.{State}
use Rattle.xt_timeless.specs.Time.{uses_time}
use Rattle.xt_outcomes.specs.Dead.{fits}
use Rattle.xt_outcomes.specs.Nexts.{misfits, next_bars, side_next, spot_next}
use Rattle.xt_outcomes.specs.Places.{is_local, is_own_access, spot_run}
use Rattle.xt_outcomes.specs.SpotRaces.{next_of}
use Rattle.xt_outcomes.specs.Spots.{Side, Spot, memory_given, side_bars, side_of}
use Rattle.xt_outcomes.specs.declared.places.Place.{Place}
use Rattle.xt_outcomes.proofs.Spreading.{off_at}

module _ (code : ℕ → ℕ) (timed : Bool) (ms : List ℕ) where
  time_rests : (b : Bool) (s : Side State) → s.left ≡ 0 → side_bars code b s ≡ false
  time_rests true s e = refl
  time_rests false s e = ap (λ (n : ℕ). not (n == 0) && uses_time code s.state) e

  bars_rest : (s : Side State) → s.left ≡ 0 → next_bars code timed ms s ≡ false
  bars_rest s e =
      ap (λ (b : Bool). b || misfits code ms s) (time_rests timed s e)
      ∙ ap (λ (n : ℕ). not (n == 0) && not (fits code ms s.state)) e

  pub local_rests : (ps : List Place) (c : ℕ) (s : Side State) → s.left ≡ 0 → is_local code timed ms ps c s ≡ false
  local_rests ps c s e = ap (λ (n : ℕ). not (n == 0) && (not (next_bars code timed ms s) && is_own_access ps c (next_of code s))) e

  pub next_rests : (c : ℕ) (w : Spot State) → (side_of c w).left ≡ 0 → spot_next (processor code) timed ms c w ≡ w
  next_rests zero w e = λ i. record {
    side0 = side_next (processor code) timed ms (e i) w.side0 w.memory;
    side1 = w.side1;
    memory = memory_given (processor code) (e i) w.side0.state w.memory;
  }
  next_rests (suc c) w e = λ i. record {
    side0 = w.side0;
    side1 = side_next (processor code) timed ms (e i) w.side1 w.memory;
    memory = memory_given (processor code) (e i) w.side1.state w.memory;
  }

  pub free_rests : (c : ℕ) (w : Spot State) → (side_of c w).left ≡ 0 → next_bars code timed ms (side_of c w) ≡ false
  free_rests c w e = bars_rest (side_of c w) e

  pub run_rests : (ps : List Place) (n c : ℕ) (w : Spot State) → (side_of c w).left ≡ 0 → spot_run code timed ms ps n c w ≡ w
  run_rests ps n c w e =
      let step = spot_next (processor code) timed ms c in
      let test = λ (q : Spot State). is_local code timed ms ps c (side_of c q) in
      let r = next_rests c w e in
      off_at test step n (step w) (ap test r ∙ local_rests ps c (side_of c w) e) ∙ r
