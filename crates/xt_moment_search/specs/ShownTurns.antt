-- The turns of an order with moments as lines ('profile').
--
-- Profile: a turn has the line that `trace` prints of it, where CCOUNT is 0 at each turn. A timer
-- that fires has no line, and a core that has stopped makes no turn.
-- Note: a turn's number counts the core's moves before it, modulo 2^32.
use Rattle.std.specs.Prelude.{ℕ, zero, suc, ◌+◌, ◌-◌, ◌%◌, ◌^◌, if◌then◌else◌, Option, Some, List}
use Rattle.std.specs.Prelude.{[], ◌∷◌, ◌++◌, slice_get}
use Rattle.std.specs.Option.{option_map_or}
use Rattle.xt_map.specs.declared.contents.MemoryContents.{MemoryContents}
use Rattle.xt_trace.specs.declared.options.Options.{Options}
use Rattle.xt_image.specs.declared.image.Image.{Image}
use Rattle.xt_core.specs.Runs.{code_of, opening_of}
use Rattle.xt_events.specs.declared.told.TurnLine.{TurnLine}
use Rattle.xt_events.specs.Lines.{turn_text, window_of}
use Rattle.xt_moments.specs.Moments.{MomentCore, MomentWorld, moved, opening_world}
use Rattle.xt_moments.specs.WorldLaws.{begun, turn_of}
use Rattle.xt_moments.specs.declared.moves.Move.{Move}
use Rattle.xt_moments.specs.declared.moves.Move.TheVariants as move
use Rattle.xt_command_line.specs.declared.outcomes.Shown.{Shown}
use Rattle.xt_command_line.specs.declared.outcomes.Shown.TheVariants as shown
use Rattle.xt_moment_search.specs.declared.answers.Answers.{Answers}
use Rattle.xt_moment_search.specs.declared.found.Found.{Found}
use Rattle.xt_moment_search.specs.declared.stuck.Stuck.{Stuck}
use Rattle.xt_moment_search.specs.declared.stuck.Stuck.TheVariants as stuck

-- ---- the line of a turn

-- what `trace` tells of a core's next turn, which has this number
abbrev pub told_next : (ℕ → ℕ) → (core number : ℕ) → MomentCore → MemoryContents → TurnLine
told_next code core number k m = record {
  core = core;
  step = number;
  turn = Some (turn_of code 0 k m).0;
  before = window_of (begun 0 k);
  after = window_of (turn_of code 0 k m).1;
  next = (turn_of code 0 k m).1.control.pc;
}

abbrev pub next_line : (ℕ → ℕ) → (core number : ℕ) → MomentCore → MemoryContents → List ℕ
next_line code core number k m =
    if k.stopped then []
    else turn_text code (told_next code core number k m) (turn_of code 0 k m).0

-- ---- the lines of an order

-- the numbers of both cores' next turns
abbrev pub Numbers : Type 0
Numbers = ℕ × ℕ

abbrev pub numbers_past : Move → Numbers → Numbers
numbers_past (move.Turn zero) n = ((n.0 + 1) % 2 ^ 32, n.1)
numbers_past (move.Turn (suc c)) n = (n.0, (n.1 + 1) % 2 ^ 32)
numbers_past (move.Fires c timer) n = n

abbrev pub move_line : (ℕ → ℕ) → Numbers → Move → MomentWorld → List ℕ
move_line code n (move.Turn zero) w = next_line code 0 n.0 w.core0 w.memory
move_line code n (move.Turn (suc c)) w = next_line code 1 n.1 w.core1 w.memory
move_line code n (move.Fires c timer) w = []

abbrev pub move_lines : (ℕ → ℕ) → Numbers → List Move → MomentWorld → List ℕ
move_lines code n [] w = []
move_lines code n (x ∷ xs) w =
    move_line code n x w ++ move_lines code (numbers_past x n) xs (moved code 0 x w)

-- from the opening of an image's runs on
abbrev pub order_lines : Image → Options → List Move → List ℕ
order_lines image o order =
    move_lines (code_of image) (0, 0) order (opening_world (opening_of image o))

-- ---- which order is shown

abbrev pub stuck_order : Stuck → List Move
stuck_order stuck.Never = []
stuck_order (stuck.Order order) = order.items
stuck_order stuck.Unknown = []

-- the order of the outcome with this number, counted from 1, or the one that no order continues to
-- an end; without a move where there is none
abbrev pub shown_order : Shown → Answers → List Move
shown_order shown.Nothing a = []
shown_order (shown.Outcome number) a =
    option_map_or (λ (x : Found). x.order.items) (slice_get a.found.items (number - 1)) []
shown_order shown.Stuck a = stuck_order a.stuck
