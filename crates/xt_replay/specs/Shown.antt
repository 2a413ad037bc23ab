-- A replay of a run, and what it shows at a position ('profile').
use Rattle.std.specs.Prelude.{◌≡◌, ℕ, zero, suc, ◌<◌, ◌≤◌, if◌then◌else◌, Option, Some, None, List}
use Rattle.std.specs.Prelude.{length, slice_get}
use Rattle.xt_map.specs.declared.contents.MemoryContents.{MemoryContents}
use Rattle.xt_map.specs.declared.segment.Segment.{Segment}
use Rattle.xt_map.specs.Memory.{byte_at, constant_byte}
use Rattle.xt_map.specs.Regions.{is_constant, is_memory, region_of}
use Rattle.xt_trace.specs.declared.record.StepRecord.{StepRecord}
use Rattle.xt_trace.specs.declared.run.Run.{Run}
use Rattle.xt_image.specs.declared.image.Image.{Image}
use Rattle.xt_exec.specs.State.{State}
use Rattle.xt_core.specs.Positions.{schedule_in, world_at}
use Rattle.xt_core.specs.Runs.{records_of}

-- a run of an image, and a position: a number of steps of the run's schedule
pub record ReplayState : Type 0 where
  pub image : Image
  pub run : Run
  pub position : ℕ

-- the same run at another position
abbrev pub replay_at : ReplayState → ℕ → ReplayState
replay_at r p = record r { position = p }

-- the state of each core and the number of its next step, what memory holds, and
-- the image's constant bytes
pub record Shown : Type 0 where
  pub state0 : State
  pub step0 : ℕ
  pub state1 : State
  pub step1 : ℕ
  pub memory : MemoryContents
  pub segments : List Segment

-- what the run from the start has after so many steps of its schedule: a core's next step has as
-- its number how many it has made
abbrev pub shown_at : Image → Run → ℕ → Shown
shown_at image r p = let w = world_at image r p in record {
  state0 = w.core0.state;
  step0 = length w.core0.records;
  state1 = w.core1.state;
  step1 = length w.core1.records;
  memory = w.line.memory;
  segments = image.segments;
}

-- ---- what is read of it

abbrev pub state_in : ℕ → Shown → State
state_in zero s = s.state0
state_in (suc c) s = s.state1

abbrev pub step_in : ℕ → Shown → ℕ
step_in zero s = s.step0
step_in (suc c) s = s.step1

-- the byte at an address; there is none outside the memory regions and the constant regions
abbrev pub byte_in : ℕ → Shown → Option ℕ
byte_in a s =
    if is_memory (region_of a) then Some (byte_at s.memory a)
    else (if is_constant (region_of a) then Some (constant_byte s.segments a) else None)

-- the core of the next turn of a replay, and the record that this core's trace has of it; or there is
-- no turn left
abbrev pub IsNextTurn : Option (ℕ × StepRecord) → ReplayState → Type 0
IsNextTurn None s = length (schedule_in s.run) ≤ s.position
IsNextTurn (Some (core, x)) s =
    (slice_get (schedule_in s.run) s.position ≡ Some core)
    × (core < 2)
    × (slice_get (records_of core s.image s.run).records (step_in core (shown_at s.image s.run s.position))
    ≡ Some x)
