-- Orders of two cores' turns, and the world after one ('profile').
--
-- An order is a list of cores. Each number gives that core its next turn, or nothing where it has
-- stopped. The world after it is both cores, memory and what was sent, as the positions of a run
-- have them.
--
-- Profile: timed, each core has the turns that the options give it; else each has as many as the
-- order is long, so no turn of the order is left out for want of turns.
use Rattle.std.specs.Prelude.{ℕ, Bool, true, false, List, length}
use Rattle.xt_trace.specs.Chip.{Chip}
use Rattle.xt_trace.specs.Runs.{Opening, world_at_start}
use Rattle.xt_trace.specs.Worlds.{World, advance}

-- each core has this many turns
abbrev pub with_both : {S : Type 0} → Opening S → ℕ → ℕ → Opening S
with_both o n m = record o { turns0 = n; turns1 = m }

abbrev pub with_turns : {S : Type 0} → Opening S → ℕ → Opening S
with_turns o n = with_both o n n

-- with the turns of the options, or with as many as the order asks for
abbrev pub given_turns : {S : Type 0} → Bool → Opening S → List ℕ → Opening S
given_turns true o order = o
given_turns false o order = with_turns o (length order)

abbrev pub world_after : {S : Type 0} (P : Chip S) (timed : Bool) → Opening S → List ℕ → World S
world_after P timed o order = advance P order (world_at_start (given_turns timed o order))
