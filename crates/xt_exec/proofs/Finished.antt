-- The halves of a turn: an interrupt that is taken, waiting, and an instruction.
use Rattle.std.proofs.Common.{◌≡◌, ℕ, true, false, ◌∙◌, ltb}
use Rattle.std.proofs.lemmas.Bool.{cond-true, cond-false}
use Rattle.xt_special.specs.Interrupts.{pending_of}
use Rattle.xt_map.specs.Fetching.{fetch_at}
use Rattle.xt_rows.specs.Settling.{settled_interrupt, settled_wait}
use Rattle.xt_exec.specs.State.{State}
use Rattle.xt_exec.specs.Turn.{planned_turn, in_window, fetched_turn}

pub turn_taken : (code : ℕ → ℕ) (s : State) → ltb 0 (pending_of s.control) ≡ true → planned_turn code s ≡ in_window (settled_interrupt (pending_of s.control) s.control) s
unfolding planned_turn
turn_taken code s e = cond-true (ltb 0 (pending_of s.control)) _ _ e

pub turn_waits : (code : ℕ → ℕ) (s : State) → ltb 0 (pending_of s.control) ≡ false → s.control.waits ≡ true → planned_turn code s ≡ in_window (settled_wait s.control) s
unfolding planned_turn
turn_waits code s e w = cond-false (ltb 0 (pending_of s.control)) _ _ e ∙ cond-true s.control.waits _ _ w

pub turn_fetches : (code : ℕ → ℕ) (s : State) → ltb 0 (pending_of s.control) ≡ false → s.control.waits ≡ false → planned_turn code s ≡ fetched_turn (fetch_at code s.control.pc) code s
unfolding planned_turn
turn_fetches code s e w = cond-false (ltb 0 (pending_of s.control)) _ _ e ∙ cond-false s.control.waits _ _ w
