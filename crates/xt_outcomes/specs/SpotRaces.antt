-- Carries a proof; nothing that a reader must believe.
-- The test of a race in what a search keeps of a world.
use Rattle.std.specs.Prelude.{◌≡◌, ℕ, true, ◌==◌, if◌then◌else◌, Option, Some, None}
use Rattle.xt_map.specs.declared.access.Access.{Access}
use Rattle.xt_map.specs.declared.contents.MemoryContents.{MemoryContents}
use Rattle.xt_map.specs.Serving.{reply_to}
use Rattle.xt_trace.specs.declared.record.StepKind.TheVariants as kind
use Rattle.xt_trace.specs.Worlds.{entry}
use Rattle.xt_map.specs.Fetching.{fetch_at}
use Rattle.xt_exec.specs.State.{State}
use Rattle.xt_exec.specs.Turn.{demand}
use Rattle.xt_race.specs.declared.event.Event.{Event}
use Rattle.xt_race.specs.Clashes.{clash}
use Rattle.xt_race.specs.Races.{order_of}
use Rattle.xt_outcomes.specs.Spots.{Side, Spot}

-- `next_access` of the core
abbrev pub next_of : (ℕ → ℕ) → Side State → Option Access
next_of code s = if s.left == 0 then None else demand code s.state

-- `next_event` of the core, but for its turn and its record, which play no part in a conflict
abbrev pub event_at : (ℕ → ℕ) → ℕ → Side State → MemoryContents → Access → Event
event_at code core s m a = record {
  entry = entry core a (reply_to m a);
  turn = 0;
  step = record {
    pc = s.state.control.pc;
    kind = kind.Insn;
    write = None;
    access = Some a;
    reply = reply_to m a;
    ccount = 0;
    owb = 0;
    interrupt = 0;
  };
  order = order_of (fetch_at code s.state.control.pc);
}

-- `IsNextRace` of the world
pub record IsSpotRace (code : ℕ → ℕ) (p : Spot State) (a b : Access) : Type 0 where
  pub next0 : next_of code p.side0 ≡ Some a
  pub next1 : next_of code p.side1 ≡ Some b
  pub clash : clash (event_at code 0 p.side0 p.memory a) (event_at code 1 p.side1 p.memory b)
      ≡ true
