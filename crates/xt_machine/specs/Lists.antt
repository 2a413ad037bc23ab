-- The run of an image and a list of cores ('profile').
use Rattle.std.specs.Prelude.{ℕ, List, length}
use Rattle.xt_trace.specs.declared.options.Options.{Options}
use Rattle.xt_trace.specs.declared.run.Run.{Run}
use Rattle.xt_trace.specs.declared.trace.Trace.{Trace}
use Rattle.xt_image.specs.declared.image.Image.{Image}
use Rattle.xt_trace.specs.Runs.{run_at}
use Rattle.xt_trace.specs.Schedule.{places_from}
use Rattle.xt_trace.specs.Traces.{Traced, stop_of}
use Rattle.xt_exec.specs.Chips.{processor}
use Rattle.xt_exec.specs.State.{State}
use Rattle.xt_core.specs.Runs.{code_of, opening_of}
pub use Rattle.xt_trace.specs.Schedule.{schedule_in}
pub use Rattle.xt_trace.specs.Scheduled.{HasSchedule, IsTraceIn}

-- what is kept of a core's records and last state
abbrev pub trace_for : ℕ → Traced State → Trace
trace_for core z = record {
  core = core;
  count = length z.records;
  places = places_from 0 z.records;
  stop = stop_of z.records;
  pc = z.last.control.pc;
}

-- The run of a list of cores: each number gives that core its next turn, or nothing where it has
-- ended; then core 0's remaining turns follow, and then core 1's.
abbrev pub run_of_list : Image → Options → List ℕ → Run
run_of_list image o list =
    let r = run_at (processor (code_of image)) (opening_of image o) list in
    record {
      options = o;
      history = r.history;
      trace0 = trace_for 0 r.trace0;
      trace1 = trace_for 1 r.trace1;
    }
