-- The lines of the two turns of a race, as `trace` prints them ('profile').
--
-- Note: a turn that makes an access moves no window, so that `trace` names none in its line. The
-- law `race_lines_are_of_trace` says that the line is the same with the core's own windows.
use Rattle.std.specs.Prelude.{◌≡◌, ℕ, Option, Some, None, List, [], ◌++◌}
use Rattle.xt_map.specs.declared.access.Access.{Access}
use Rattle.xt_exec.specs.State.{State}
use Rattle.xt_exec.specs.Turn.{demand, turn}
use Rattle.xt_events.specs.declared.told.TurnLine.{TurnLine}
use Rattle.xt_events.specs.declared.told.Window.{Window}
use Rattle.xt_events.specs.Lines.{turn_text, window_of}
use Rattle.xt_outcomes.specs.declared.nexts.NextTurn.{NextTurn}
use Rattle.xt_outcomes.specs.declared.races.NextRace.{NextRace}

abbrev pub no_window : Window
no_window = record { base = 0; start = 0 }

-- what `trace` tells of a core's turn that moves no window
abbrev pub told_of : ℕ → NextTurn → TurnLine
told_of core t = record {
  core = core;
  step = t.turn;
  turn = Some t.step;
  before = no_window;
  after = no_window;
  next = t.step.pc;
}

-- the line that `trace` prints of it
abbrev pub turn_line : (ℕ → ℕ) → ℕ → NextTurn → List ℕ
turn_line code core t = turn_text code (told_of core t) t.step

-- those of a race: core 0's turn, and core 1's
abbrev pub turn_lines : (ℕ → ℕ) → Option NextRace → List ℕ
turn_lines code None = []
turn_lines code (Some r) = turn_line code 0 r.turn0 ++ turn_line code 1 r.turn1

-- ---- as a law: a turn that makes an access has this line

-- what `trace` tells of a core's turn: the windows are those before it and after it
abbrev pub told_in : (ℕ → ℕ) → State → (reply core number next : ℕ) → TurnLine
told_in code s reply core number next = record {
  core = core;
  step = number;
  turn = Some (turn code s reply).0;
  before = window_of s;
  after = window_of (turn code s reply).1;
  next = next;
}

abbrev pub PrintsAsTrace : Type 0
PrintsAsTrace =
    (code : ℕ → ℕ) (s : State) (a : Access) (reply core number next : ℕ)
    → demand code s ≡ Some a
    → turn_text code (told_in code s reply core number next) (turn code s reply).0
    ≡ turn_line code core (record { turn = number; step = (turn code s reply).0 })
