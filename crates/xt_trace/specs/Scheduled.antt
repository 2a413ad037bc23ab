-- When a run has a schedule ('profile').
use Rattle.std.specs.Prelude.{◌≡◌, ℕ, ◌≤◌, List, length}
use Rattle.xt_map.specs.declared.access.Entry.{Entry}
use Rattle.xt_map.specs.History.{IsOfCores, calls_of}
use Rattle.xt_trace.specs.declared.run.Run.{Run}
use Rattle.xt_trace.specs.declared.trace.Trace.{Trace}
use Rattle.xt_trace.specs.Validity.{IsValid}
use Rattle.xt_trace.specs.Short.{IsRising}

-- a trace is of this core and no longer than its turns, its places rise and lie in it, and there
-- are as many of them as the history has entries of the core
pub record IsTraceIn (history : List Entry) (core turns : ℕ) (t : Trace) : Type 0 where
  pub core_is : t.core ≡ core
  pub short : t.count ≤ turns
  pub rise : IsRising 0 t.places t.count
  pub calls : length t.places ≡ length (calls_of core history)

-- a run has a schedule
pub record HasSchedule (r : Run) : Type 0 where
  pub valid : IsValid r.options
  pub cores : IsOfCores r.history
  pub trace0 : IsTraceIn r.history 0 r.options.turns0 r.trace0
  pub trace1 : IsTraceIn r.history 1 r.options.turns1 r.trace1
