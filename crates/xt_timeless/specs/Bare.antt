-- Carries a proof; nothing that a reader must believe.
-- Two cores and a memory without time, records and counts of turns.
use Rattle.std.specs.Prelude.{ℕ, zero, suc, Bool, if◌then◌else◌}
use Rattle.xt_map.specs.declared.contents.MemoryContents.{MemoryContents}
use Rattle.xt_trace.specs.Calls.{is_stop}
use Rattle.xt_trace.specs.Traces.{has_stopped}
use Rattle.xt_trace.specs.Worlds.{Core, World, answer, memory_left}
use Rattle.xt_exec.specs.State.{State}
use Rattle.xt_exec.specs.Turn.{demand, turn}
use Rattle.xt_timeless.specs.Time.{without_time}

pub record Bare : Type 0 where
  pub state : State
  pub stopped : Bool

pub record BareWorld : Type 0 where
  pub core0 : Bare
  pub core1 : Bare
  pub memory : MemoryContents

abbrev pub bare_of : Core State → Bare
bare_of k = record { state = without_time k.state; stopped = has_stopped k.records }

abbrev pub bare_in : World State → BareWorld
bare_in w = record { core0 = bare_of w.core0; core1 = bare_of w.core1; memory = w.line.memory }

-- one turn of a core, or nothing where it has stopped
abbrev pub bare_turned : (ℕ → ℕ) → Bare → MemoryContents → Bare
bare_turned code k m = let t = turn code k.state (answer (demand code k.state) m) in record {
  state = without_time t.1;
  stopped = is_stop t.0.kind;
}

abbrev pub bare_past : (ℕ → ℕ) → Bare → MemoryContents → Bare
bare_past code k m = if k.stopped then k else bare_turned code k m

abbrev pub bare_memory : (ℕ → ℕ) → Bare → MemoryContents → MemoryContents
bare_memory code k m = if k.stopped then m else memory_left (demand code k.state) m

abbrev pub bare_given : (ℕ → ℕ) → ℕ → BareWorld → BareWorld
bare_given code zero w = record {
  core0 = bare_past code w.core0 w.memory;
  core1 = w.core1;
  memory = bare_memory code w.core0 w.memory;
}
bare_given code (suc c) w = record {
  core0 = w.core0;
  core1 = bare_past code w.core1 w.memory;
  memory = bare_memory code w.core1 w.memory;
}
