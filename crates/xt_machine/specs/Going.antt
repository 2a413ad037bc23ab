-- Carries a proof; nothing that a reader must believe.
-- A core that is being driven, beside a core that keeps its records.
use Rattle.std.specs.Prelude.{◌≡◌, ℕ, ◌+◌, ◌||◌, None, List, [], ◌++◌, length}
use Rattle.xt_map.specs.declared.access.Access.{Access}
use Rattle.xt_trace.specs.Driven.{Drove}
use Rattle.xt_trace.specs.Schedule.{places_from}
use Rattle.xt_trace.specs.Traces.{has_stopped}
use Rattle.xt_trace.specs.Worlds.{Core}
use Rattle.xt_exec.specs.Chips.{processor}
use Rattle.xt_exec.specs.State.{State}
use Rattle.xt_core.specs.Cores.{CoreState}

-- the core after the turns with these records
abbrev pub past : Core State → CoreState → CoreState
past k before = record before {
  state = k.state;
  waiting = None;
  left = k.left;
  stopped = before.stopped || has_stopped k.records;
  count = before.count + length k.records;
  places = before.places ++ places_from before.count k.records;
}

-- a core that has made no turn
abbrev pub core_before_turns : CoreState → Core State
core_before_turns k = record { state = k.state; left = k.left; records = [] }

-- so far the list grew by the calls of the core's turns
pub record IsGoing (code : ℕ → ℕ) (before now : CoreState) (old new : List (Access × ℕ))
    : Type 0 where
  pub made : List (Access × ℕ)
  pub core : Core State
  pub list : new ≡ old ++ made
  pub now_is : now ≡ past core before
  pub drove : Drove (processor code) (core_before_turns before) core made
