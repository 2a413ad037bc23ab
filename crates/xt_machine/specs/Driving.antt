-- A core that is driven to its end over its seat ('profile').
--
-- Note: `WasDriven` speaks of the accesses that the seat's list grew by, whatever the other core
-- did. Nothing says that two threads ran.
use Rattle.std.specs.Prelude.{◌≡◌, ℕ, ◌+◌, ◌≤◌, ◌||◌, None, List, ◌++◌, length}
use Rattle.atomic_table.specs.Seated.{TableId}
use Rattle.xt_map.specs.declared.access.Access.{Access}
use Rattle.xt_trace.specs.Calls.{calls_in}
use Rattle.xt_trace.specs.Driven.{replies_in}
use Rattle.xt_trace.specs.Schedule.{places_from}
use Rattle.xt_trace.specs.Traces.{Traced, has_stopped, trace_over}
use Rattle.xt_sharedbus.specs.SeatState.{SeatState}
use Rattle.xt_exec.specs.Chips.{processor}
use Rattle.xt_exec.specs.State.{State}
use Rattle.xt_core.specs.Cores.{CoreState}

-- the turns that a core has left, over these replies
abbrev pub trace_left : (ℕ → ℕ) → CoreState → List ℕ → Traced State
trace_left code k replies = trace_over (processor code) k.state k.left replies

-- the core after these turns, its last
abbrev pub core_after_trace : CoreState → Traced State → CoreState
core_after_trace k z = record k {
  state = z.last;
  waiting = None;
  left = 0;
  stopped = k.stopped || has_stopped z.records;
  count = k.count + length z.records;
  places = k.places ++ places_from k.count z.records;
}

-- The core made all turns that it had left, over the replies to the accesses by which the seat's
-- list grew, and these are the accesses of its turns, in order.
pub record WasDriven (code : ℕ → ℕ) (before after : CoreState) (old new : List (Access × ℕ))
    : Type 0 where
  pub made : List (Access × ℕ)
  pub list : new ≡ old ++ made
  pub core : after ≡ core_after_trace before (trace_left code before (replies_in made))
  pub calls : made ≡ calls_in (trace_left code before (replies_in made)).records

-- a core that can be driven over a seat at this bus
pub record MayDrive (bus : TableId) (core : CoreState) (seat : SeatState) : Type 0 where
  pub bus_is : seat.bus ≡ bus
  pub core_is : seat.core ≡ core.core
  pub free : core.waiting ≡ None
  pub enough : core.left ≤ seat.left

-- a core at its end, and its seat, which is the same seat of the same bus
pub record HasDriven (code : ℕ → ℕ) (before : CoreState) (old : SeatState) (after : CoreState)
    (new : SeatState) : Type 0 where
  pub driven_is : WasDriven code before after old.list new.list
  pub ended : after.left ≡ 0
  pub free : after.waiting ≡ None
  pub bus_is : new.bus ≡ old.bus
  pub core_is : new.core ≡ old.core
  pub opening_is : new.opening ≡ old.opening
