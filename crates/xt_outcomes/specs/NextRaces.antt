-- Races of the next turns of both cores ('profile').
--
-- Note: `IsNextRace` is `Conflict` of `xt_race` for the next turns of both cores, as if each came
-- next in the history.
use Rattle.std.specs.Prelude.{◌≡◌, ℕ, Bool, if◌then◌else◌, Option, Some, None, length}
use Rattle.xt_map.specs.declared.access.Access.{Access}
use Rattle.xt_map.specs.Serving.{reply_to}
use Rattle.xt_trace.specs.Walks.{next_record}
use Rattle.xt_trace.specs.Worlds.{Core, Line, World, entry}
use Rattle.xt_exec.specs.Chips.{processor}
use Rattle.xt_exec.specs.State.{State}
use Rattle.xt_exec.specs.Turn.{demand}
use Rattle.xt_race.specs.declared.event.Event.{Event}
use Rattle.xt_race.specs.Races.{Conflict, event}
use Rattle.xt_outcomes.specs.Outcomes.{core_ended}

-- the access of a core's next turn; there is none where the core has ended
abbrev pub next_access : (ℕ → ℕ) → (timed : Bool) → Core State → Option Access
next_access code timed k = if core_ended timed k then None else demand code k.state

-- the access with its reply and its turn, as it would be the next entry of the history
abbrev pub next_event : (ℕ → ℕ) → ℕ → Core State → Line → Access → Event
next_event code core k b a =
    event code (entry core a (reply_to b.memory a))
    (length k.records, next_record (processor code) k b)

-- The next turns of both cores make these accesses, which conflict: they have a byte of memory in
-- common, at least one of them stores, and not both are L32AI, S32RI or S32C1I.
pub record IsNextRace (code : ℕ → ℕ) (timed : Bool) (w : World State) (access0 access1 : Access)
    : Type 0 where
  pub next0 : next_access code timed w.core0 ≡ Some access0
  pub next1 : next_access code timed w.core1 ≡ Some access1
  pub conflict : Conflict (next_event code 0 w.core0 w.line access0)
      (next_event code 1 w.core1 w.line access1)
