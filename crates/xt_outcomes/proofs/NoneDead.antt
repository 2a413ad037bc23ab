-- Where no register is dead, nothing is forgotten.
use Rattle.std.proofs.Common.{◌≡◌, ℕ, zero, suc, ◌%◌, Bool, true, false, not, ◌&&◌, ◌||◌, List, [], slice_index, refl, ap, ◌∙◌}
use Rattle.std.specs.Prelude.{◌==◌}
use Rattle.xt_map.specs.declared.contents.MemoryContents.{MemoryContents}
use Rattle.xt_trace.specs.Chip.{Chip}
use Rattle.xt_map.specs.Fetching.{fetch_at}
use Rattle.xt_rows.specs.Settling.{write_with_reply}
use Rattle.xt_exec.specs.State.{State}
use Rattle.xt_exec.specs.Turn.{planned_turn}
use Rattle.xt_outcomes.specs.Dead.{are_fit, cleared, compare_cleared, dead_at, fits, forgotten, has_compare, is_compare_fit, reads_of, registers_in, side_forgotten}
use Rattle.xt_timeless.specs.Time.{executes, fetches_compare, fetches_write}
use Rattle.xt_outcomes.specs.Nexts.{misfits, next_bars, side_next, spot_next}
use Rattle.xt_outcomes.specs.Spots.{Side, Spot, memory_given, side_bars, side_given, spot_past}
use Rattle.xt_outcomes.proofs.Clearing.{none_cleared}

none_there : (k : ℕ) → slice_index [] k ≡ 0
none_there zero = refl
none_there (suc k) = refl

none_at : (pc : ℕ) → dead_at [] pc ≡ 0
none_at pc = none_there (pc % 131072)

none_forgotten : (s : State) → forgotten [] s ≡ s
none_forgotten s =
    let with : ℕ → List ℕ → State = λ mask xs. record s {
      regs = xs;
      control = record s.control { special = compare_cleared (has_compare mask) s.control.special };
    } in
    ap (λ (mask : ℕ). with mask (cleared (registers_in mask) s.base s.regs 16)) (none_at s.control.pc) ∙ ap (with 0) (none_cleared s.base s.regs)

side_stays : (k : Side State) → side_forgotten [] k ≡ k
side_stays k = ap (λ (s : State). let l : Side State = record k { state = s } in l) (none_forgotten k.state)

module _ (P : Chip State) (timed : Bool) where
  next_is_given : (n : ℕ) (s : Side State) (m : MemoryContents) → side_next P timed [] n s m ≡ side_given P timed n s m
  next_is_given zero s m = refl
  next_is_given (suc n) s m = side_stays (side_given P timed (suc n) s m)

  pub next_is_past : (c : ℕ) (p : Spot State) → spot_next P timed [] c p ≡ spot_past P timed c p
  next_is_past zero p =
      ap (λ (s : Side State). let q : Spot State = record { side0 = s; side1 = p.side1; memory = memory_given P p.side0.left p.side0.state p.memory } in q) (next_is_given p.side0.left p.side0 p.memory)
  next_is_past (suc c) p =
      ap (λ (s : Side State). let q : Spot State = record { side0 = p.side0; side1 = s; memory = memory_given P p.side1.left p.side1.state p.memory } in q) (next_is_given p.side1.left p.side1 p.memory)

module _ (code : ℕ → ℕ) where
  -- each turn fits
  pub all_fit : (s : State) → fits code [] s ≡ true
  all_fit s =
      let p = planned_turn code s in
      let at = fetch_at code s.control.pc in
      let later = dead_at [] p.after.control.pc in
      ap
      (λ (mask : ℕ). are_fit (registers_in mask) (reads_of at) (p.after.base == s.base) (write_with_reply p.write p.awaited 0) (registers_in later)
      && is_compare_fit mask (fetches_compare at) (executes p.kind && fetches_write at) later)
      (none_at s.control.pc)

  none_misfits : (s : Side State) → misfits code [] s ≡ false
  none_misfits s = ap (λ (b : Bool). not (s.left == 0) && not b) (all_fit s.state) ∙ never (not (s.left == 0))
    where
      never : (b : Bool) → (b && false) ≡ false
      never true = refl
      never false = refl

  pub bars_are_same : (timed : Bool) (s : Side State) → next_bars code timed [] s ≡ side_bars code timed s
  bars_are_same timed s = ap (λ (b : Bool). side_bars code timed s || b) (none_misfits s) ∙ none_more (side_bars code timed s)
    where
      none_more : (b : Bool) → (b || false) ≡ b
      none_more true = refl
      none_more false = refl
