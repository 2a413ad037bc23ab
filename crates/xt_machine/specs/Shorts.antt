-- Carries a proof; nothing that a reader must believe.
-- Two cores at work over one bus, as a world that keeps no records.
use Rattle.std.specs.Prelude.{ℕ, zero, suc}
use Rattle.xt_bus.specs.States.{BusState}
use Rattle.xt_image.specs.declared.image.Image.{Image}
use Rattle.xt_trace.specs.declared.options.Options.{Options}
use Rattle.xt_trace.specs.declared.run.Run.{Run}
use Rattle.xt_trace.specs.declared.trace.Trace.{Trace}
use Rattle.xt_trace.specs.Runs.{world_at_start}
use Rattle.xt_trace.specs.Short.{ShortCore, ShortWorld, short_world}
use Rattle.xt_trace.specs.Traces.{stop_where}
use Rattle.xt_trace.specs.Worlds.{Line, answer}
use Rattle.xt_exec.specs.State.{State}
use Rattle.xt_exec.specs.Turn.{demand}
use Rattle.xt_core.specs.Cores.{CoreState, core_after_turn, short_of}
use Rattle.xt_core.specs.Runs.{opening_of}
use Rattle.xt_machine.specs.declared.pair.Pair.{Pair}

-- the bus as runs see it
abbrev pub line_of : BusState → Line
line_of b = record { memory = b.memory; history = b.history }

-- a core that has so many turns left, after one turn on the bus
abbrev pub core_after_bus_turn : (ℕ → ℕ) → ℕ → CoreState → Line → CoreState
core_after_bus_turn code zero k b = k
core_after_bus_turn code (suc n) k b =
    core_after_turn code (answer (demand code k.state) b.memory) k

abbrev pub world_of : Pair → ShortWorld State
world_of p = record { line = line_of p.bus; core0 = short_of p.core0; core1 = short_of p.core1 }

-- both cores of an image with all of their turns
abbrev pub opened_world : Image → Options → ShortWorld State
opened_world image o = short_world (world_at_start (opening_of image o))

abbrev pub trace_in : ℕ → ShortCore State → Trace
trace_in core k = record {
  core = core;
  count = k.count;
  places = k.places;
  stop = stop_where k.stopped;
  pc = k.state.control.pc;
}

-- what a world leaves
abbrev pub run_in : Options → ShortWorld State → Run
run_in o w = record {
  options = o;
  history = w.line.history;
  trace0 = trace_in 0 w.core0;
  trace1 = trace_in 1 w.core1;
}
