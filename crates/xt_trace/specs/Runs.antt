-- Runs of two cores over one bus, and the run of a list of cores ('profile').
--
-- Note: `IsRunOf` relates a history and two traces and says nothing of how they came about; the
-- laws say that each list of cores gives a run, and that a run is the run of its own schedule. In a
-- list of cores 0 is core 0 and any other number is core 1; a number whose core has ended gives
-- nothing.
use Rattle.std.specs.Prelude.{◌≡◌, ℕ, List, [], length}
use Rattle.xt_map.specs.declared.access.Entry.{Entry}
use Rattle.xt_map.specs.declared.contents.MemoryContents.{MemoryContents}
use Rattle.xt_map.specs.History.{IsLegal, IsOfCores}
use Rattle.xt_trace.specs.Chip.{Chip}
use Rattle.xt_trace.specs.Traces.{Traced, trace_over}
use Rattle.xt_trace.specs.Calls.{calls_in}
use Rattle.xt_map.specs.History.{calls_of, replies_of}
use Rattle.xt_trace.specs.Schedule.{places_from, cores_of}
use Rattle.xt_trace.specs.Worlds.{Core, World, advance, finished_world}
use Rattle.xt_trace.specs.Schedule.{schedule}

-- what a run opens with
pub record Opening (S : Type 0) : Type 0 where
  pub memory : MemoryContents
  pub state0 : S
  pub state1 : S
  pub turns0 : ℕ
  pub turns1 : ℕ

-- what a run leaves: the history of the bus, and both traces
pub record Run (S : Type 0) : Type 0 where
  pub history : List Entry
  pub trace0 : Traced S
  pub trace1 : Traced S

-- both cores with all of their turns, and the bus before its first access
abbrev pub world_at_start : {S : Type 0} → Opening S → World S
world_at_start o =
    record {
      line = record { memory = o.memory; history = [] };
      core0 = record { state = o.state0; left = o.turns0; records = [] };
      core1 = record { state = o.state1; left = o.turns1; records = [] };
    }

abbrev pub traced_so_far : {S : Type 0} → Core S → Traced S
traced_so_far k = record { records = k.records; last = k.state }

abbrev pub run_of : {S : Type 0} → World S → Run S
run_of w = record {
  history = w.line.history;
  trace0 = traced_so_far w.core0;
  trace1 = traced_so_far w.core1;
}

-- The run of a list of cores: each number gives that core its next turn, or nothing where it has
-- ended; then core 0's remaining turns follow, and then core 1's.
abbrev pub run_at : {S : Type 0} (P : Chip S) → Opening S → List ℕ → Run S
run_at P o list = run_of (finished_world P (advance P list (world_at_start o)))

-- A run of an opening: the history is legal, each trace is the processor's over the replies of its
-- core's entries, and the accesses of each core in the history are those of its trace.
pub record IsRunOf {S : Type 0} (P : Chip S) (o : Opening S) (r : Run S) : Type 0 where
  pub legal : IsLegal o.memory r.history
  pub cores : IsOfCores r.history
  pub trace0 : r.trace0 ≡ trace_over P o.state0 o.turns0 (replies_of 0 r.history)
  pub trace1 : r.trace1 ≡ trace_over P o.state1 o.turns1 (replies_of 1 r.history)
  pub calls0 : calls_of 0 r.history ≡ calls_in r.trace0.records
  pub calls1 : calls_of 1 r.history ≡ calls_in r.trace1.records

-- a run's own schedule
abbrev pub schedule_of : {S : Type 0} → Run S → List ℕ
schedule_of r =
    schedule (cores_of r.history) (places_from 0 r.trace0.records) (length r.trace0.records)
    (places_from 0 r.trace1.records) (length r.trace1.records)
