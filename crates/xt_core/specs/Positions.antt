-- The positions of a run: both cores and memory after its first steps ('profile').
use Rattle.std.specs.Prelude.{ℕ}
use Rattle.xt_trace.specs.declared.run.Run.{Run}
use Rattle.xt_image.specs.declared.image.Image.{Image}
pub use Rattle.xt_trace.specs.Schedule.{schedule_in}
use Rattle.xt_trace.specs.Walks.{state_at}
use Rattle.xt_trace.specs.Worlds.{World}
use Rattle.xt_exec.specs.Chips.{processor}
use Rattle.xt_exec.specs.State.{State}
use Rattle.xt_core.specs.Runs.{code_of, opening_of}

-- both cores and the bus after the first p steps of a run of an image: the memory, the entries
-- before the position, and of each core its state and its records so far
abbrev pub world_at : Image → Run → ℕ → World State
world_at image r p =
    state_at (processor (code_of image)) (opening_of image r.options) (schedule_in r) p
