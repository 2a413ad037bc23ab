-- Carries a proof; nothing that a reader must believe.
-- Two cores at work over one memory, as the places in a world that a replay keeps.
use Rattle.std.specs.Prelude.{◌≡◌, ℕ, zero, suc, ◌+◌, ◌-◌, ◌≤◌, nat_lt, if◌then◌else◌, Option, Some}
use Rattle.std.specs.Prelude.{None, List, [], ◌∷◌, length, slice_get}
use Rattle.std.specs.Option.{option_map_or}
use Rattle.xt_map.specs.declared.access.Access.{Access}
use Rattle.xt_map.specs.declared.access.Entry.{Entry}
use Rattle.xt_trace.specs.declared.options.Options.{Options}
use Rattle.xt_trace.specs.declared.record.StepRecord.{StepRecord}
use Rattle.xt_trace.specs.declared.run.Run.{Run}
use Rattle.xt_image.specs.declared.image.Image.{Image}
use Rattle.xt_trace.specs.Runs.{Opening}
use Rattle.xt_trace.specs.Worlds.{Core, World, left_past, answer, memory_left}
use Rattle.xt_exec.specs.State.{State}
use Rattle.xt_exec.specs.Turn.{demand, turn}
use Rattle.xt_core.specs.Cores.{CoreState}
use Rattle.xt_core.specs.Positions.{schedule_in}
use Rattle.xt_replay.specs.Places.{place_behind, trace_in}
pub use Rattle.xt_replay.specs.Sides.{Copied, Side, Stand}
use Rattle.xt_replay.specs.Shown.{shown_at, step_in}
use Rattle.xt_replay.specs.declared.pair.Pair.{Pair}

abbrev pub side_of : CoreState → ℕ → Side
side_of k step = record { state = k.state; left = k.left; step = step }

abbrev pub stand_of : Pair → Stand
stand_of p = record {
  side0 = side_of p.core0 p.step0;
  side1 = side_of p.core1 p.step1;
  memory = p.memory.contents;
  entries = p.used;
}

abbrev pub mark_stand : Copied → Stand
mark_stand m = m.stand

-- how many steps a core has made at a copy
abbrev pub made_in : ℕ → Copied → ℕ
made_in zero m = m.stand.side0.step
made_in (suc c) m = m.stand.side1.step

abbrev pub side_in : Core State → Side
side_in k = record { state = k.state; left = k.left; step = length k.records }

abbrev pub stand_in : World State → Stand
stand_in w = record {
  side0 = side_in w.core0;
  side1 = side_in w.core1;
  memory = w.line.memory;
  entries = length w.line.history;
}

-- ---- one turn

abbrev pub side_past : (ℕ → ℕ) → Side → ℕ → Side
side_past code s reply =
    let t = turn code s.state reply in
    record { state = t.1; left = left_past t.0 (s.left - 1); step = s.step + 1 }

abbrev pub entries_past : Option Access → ℕ → ℕ
entries_past None n = n
entries_past (Some a) n = n + 1

-- one turn of a core that has one left
abbrev pub stand_past : (ℕ → ℕ) → ℕ → Stand → Stand
stand_past code zero s = let d = demand code s.side0.state in
    record s {
      side0 = side_past code s.side0 (answer d s.memory);
      memory = memory_left d s.memory;
      entries = entries_past d s.entries;
    }
stand_past code (suc c) s = let d = demand code s.side1.state in
    record s {
      side1 = side_past code s.side1 (answer d s.memory);
      memory = memory_left d s.memory;
      entries = entries_past d s.entries;
    }

-- the turns that a core has left
abbrev pub left_of : ℕ → Stand → ℕ
left_of zero s = s.side0.left
left_of (suc c) s = s.side1.left

-- a core opens with all of its turns
abbrev pub side_opening : State → ℕ → Side
side_opening state turns = record { state = state; left = turns; step = 0 }

abbrev pub stand_opening : Opening State → Stand
stand_opening o =
    record {
      side0 = side_opening o.state0 o.turns0;
      side1 = side_opening o.state1 o.turns1;
      memory = o.memory;
      entries = 0;
    }

-- the turns that are left and what they may send find room
pub record Fits (s : Stand) (turns0 turns1 : ℕ) : Type 0 where
  pub left0 : s.side0.step + s.side0.left ≤ turns0
  pub left1 : s.side1.step + s.side1.left ≤ turns1
  pub used : s.entries ≤ s.side0.step + s.side1.step
  pub sent : length s.memory.sent + (s.side0.left + s.side1.left) ≤ turns0 + turns1

-- there is room for all turns of a run with these options
pub record HasRoom (p : Pair) (o : Options) : Type 0 where
  pub turns0 : p.core0.turns ≡ o.turns0
  pub turns1 : p.core1.turns ≡ o.turns1
  pub room : p.memory.room ≡ o.turns0 + o.turns1

-- the room is the same as before
pub record IsAsRoomy (old new : Pair) : Type 0 where
  pub turns0 : new.core0.turns ≡ old.core0.turns
  pub turns1 : new.core1.turns ≡ old.core1.turns
  pub room : new.memory.room ≡ old.memory.room

-- the position is not after that of a core's step with this number
pub record Comes (image : Image) (r : Run) (core step p : ℕ) : Type 0 where
  pub most : step_in core (shown_at image r p) ≤ step
  pub behind : step ≡ (trace_in core r).count → step_in core (shown_at image r p) ≡ step
      → p ≡ place_behind core step (schedule_in r)

-- the reply of the next entry, where so many were served
abbrev pub next_reply : List Entry → ℕ → ℕ
next_reply es n = option_map_or (λ (e : Entry). e.reply) (slice_get es n) 0

-- the right reply for a turn that asks so; one that asks nothing takes any
abbrev pub IsReply : Option Access → ℕ → ℕ → Type 0
IsReply None reply right = Unit {0}
IsReply (Some a) reply right = reply ≡ right

-- the record of a core's next turn
abbrev pub record_in : (ℕ → ℕ) → ℕ → Stand → StepRecord
record_in code zero s =
    (turn code s.side0.state (answer (demand code s.side0.state) s.memory)).0
record_in code (suc c) s =
    (turn code s.side1.state (answer (demand code s.side1.state) s.memory)).0

-- the core of the next step, where these entries are left, and core 0 has made i of its n steps
abbrev pub next_of : List Entry → ℕ → ℕ → ℕ
next_of [] i n = if nat_lt i n then 0 else 1
next_of (e ∷ es) i n = e.core
