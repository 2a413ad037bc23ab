-- The next turns of both cores in a world ('profile').
use Rattle.std.specs.Prelude.{◌≡◌, ℕ, length}
use Rattle.xt_trace.specs.Walks.{next_record}
use Rattle.xt_trace.specs.Worlds.{Core, Line, World}
use Rattle.xt_exec.specs.Chips.{processor}
use Rattle.xt_exec.specs.State.{State}
use Rattle.xt_outcomes.specs.declared.nexts.NextTurn.{NextTurn}

-- its number among the turns of the core, and its record
pub record IsNextTurn (code : ℕ → ℕ) (k : Core State) (b : Line) (t : NextTurn) : Type 0 where
  pub turn : t.turn ≡ length k.records
  pub step : t.step ≡ next_record (processor code) k b

pub record AreNextTurns (code : ℕ → ℕ) (w : World State) (t u : NextTurn) : Type 0 where
  pub turn0 : IsNextTurn code w.core0 w.line t
  pub turn1 : IsNextTurn code w.core1 w.line u
