-- A core at work, and what its turns leave ('profile').
use Rattle.std.specs.Prelude.{◌≡◌, ℕ, ◌+◌, ◌-◌, ◌<◌, Bool, true, false, ◌||◌, Option, Some, None}
use Rattle.std.specs.Prelude.{List, [], ◌++◌}
use Rattle.xt_map.specs.declared.access.Access.{Access}
use Rattle.xt_map.specs.Regions.{is_mapped}
use Rattle.xt_trace.specs.declared.record.StepRecord.{StepRecord}
use Rattle.xt_trace.specs.declared.trace.Trace.{Trace}
use Rattle.xt_trace.specs.Calls.{is_stop}
use Rattle.xt_rows.specs.RowLaws.{IsRegister}
use Rattle.xt_trace.specs.Schedule.{place_before}
use Rattle.xt_trace.specs.Short.{ShortCore}
use Rattle.xt_trace.specs.Traces.{stop_where}
use Rattle.xt_trace.specs.Worlds.{left_past}
use Rattle.xt_exec.specs.declared.plans.Pending.{Pending}
use Rattle.xt_exec.specs.State.{State}
use Rattle.xt_exec.specs.Turn.{demand, planned_turn, turn}
use Rattle.xt_exec.specs.Halves.{asking_turn}
use Rattle.xt_core.specs.declared.begin.Begin.{Begin}
use Rattle.xt_core.specs.declared.begin.Begin.TheVariants as begin

pub record CoreState : Type 0 where
  -- its number, 0 or 1
  pub core : ℕ
  pub state : State
  -- what waits for the reply to an access
  pub waiting : Option Pending
  -- the turns that are left: none after a Stop
  pub left : ℕ
  pub stopped : Bool
  -- how many turns were made, and the numbers of those with an access
  pub count : ℕ
  pub places : List ℕ
  -- for how many turns there is room
  pub turns : ℕ

-- without what waits, it is a core that keeps no records
abbrev pub short_of : CoreState → ShortCore State
short_of k = record {
  state = k.state;
  left = k.left;
  count = k.count;
  places = k.places;
  stopped = k.stopped;
}

-- a core that opens in this state, with so many turns
abbrev pub opening_core_state : ℕ → State → ℕ → CoreState
opening_core_state core state turns = record {
  core = core;
  state = state;
  waiting = None;
  left = turns;
  stopped = false;
  count = 0;
  places = [];
  turns = turns;
}

-- after a turn with this record
abbrev pub core_after_record : StepRecord → CoreState → CoreState
core_after_record r k = record k {
  waiting = None;
  left = left_past r (k.left - 1);
  stopped = k.stopped || is_stop r.kind;
  count = k.count + 1;
  places = k.places ++ place_before r.access k.count [];
}

-- after a turn with this reply
abbrev pub core_after_turn : (ℕ → ℕ) → ℕ → CoreState → CoreState
core_after_turn code reply k =
    let t = turn code k.state reply in core_after_record t.0 (record k { state = t.1 })

-- the next turn from this state asks, and this waits for the reply
abbrev pub Awaits : (ℕ → ℕ) → State → Pending → Type 0
Awaits code s p = planned_turn code s ≡ asking_turn p s

-- the next turn asks for an access, and the core waits for the reply
abbrev pub AwaitsReply : (ℕ → ℕ) → CoreState → Type 0
AwaitsReply code k = (p : Pending) × (k.waiting ≡ Some p) × Awaits code k.state p

pub record Asks (code : ℕ → ℕ) (before after : CoreState) (access : Access) : Type 0 where
  pub left : 0 < before.left
  pub asks : demand code before.state ≡ Some access
  pub mapped : is_mapped access ≡ true
  -- nothing has changed, but that the core waits
  pub same : after ≡ record before { waiting = after.waiting }
  pub awaits : AwaitsReply code after

-- what a turn that begins does
abbrev pub Begins : Begin → (ℕ → ℕ) → CoreState → CoreState → Type 0
Begins begin.Ended code before after = (before.left ≡ 0) × (after ≡ before)
Begins begin.Local code before after =
    (0 < before.left) × (demand code before.state ≡ None) × (after ≡ core_after_turn code 0 before)
Begins (begin.Bus access) code before after = Asks code before after access

-- the register that receives the reply exists, and there is a turn for it
abbrev pub IsWaiting : Option Pending → ℕ → Type 0
IsWaiting None left = Unit {0}
IsWaiting (Some p) left = IsRegister p.target × (0 < left)

-- what is kept of the turns that a core made
abbrev pub trace_of : CoreState → Trace
trace_of k = record {
  core = k.core;
  count = k.count;
  places = k.places;
  stop = stop_where k.stopped;
  pc = k.state.control.pc;
}

-- the same core at another state, with so many turns left
abbrev pub core_restarted_at : State → ℕ → CoreState → CoreState
core_restarted_at state left k =
    record k { state = state; left = left; stopped = false; count = 0; places = [] }
