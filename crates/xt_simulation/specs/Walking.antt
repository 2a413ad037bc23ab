-- Both cores over a schedule, beside the judge's walk, up to the first breach ('profile').
use Rattle.std.specs.Prelude.{◌≡◌, ◌≤◌, ℕ, Bool, true, false, ◌⊎◌, Option, Some, None, List, []}
use Rattle.std.specs.Prelude.{◌∷◌, ◌++◌}
use Rattle.xt_map.specs.declared.access.Entry.{Entry}
use Rattle.xt_map.specs.declared.contents.MemoryContents.{MemoryContents}
use Rattle.xt_map.specs.History.{IsLegal}
use Rattle.xt_trace.specs.declared.record.StepRecord.{StepRecord}
use Rattle.xt_special.specs.Interrupts.{pending_of}
use Rattle.xt_exec.specs.State.{State}
use Rattle.xt_frames.specs.Frames.{FrameState}
use Rattle.xt_frames.specs.SaveAreas.{Range, is_live}
use Rattle.xt_frames.specs.FrameStep.{with_inputs}
use Rattle.xt_frames.specs.Nesting.{is_nesting, nested_level}
use Rattle.xt_frames.specs.Breaches.{Bounds, inputs_of}
use Rattle.xt_simulation.specs.Steps.{record_now, state_now, memory_now}
use Rattle.xt_simulation.specs.InHandlers.{LeavesHandler, MovesFrame, StoresAlone, as_left}
use Rattle.xt_map.specs.Memory.{byte_at}
use Rattle.xt_exec.specs.Turn.{planned_turn}
use Rattle.xt_frames.specs.declared.kinds.HandlerPhase.{HandlerPhase}
use Rattle.xt_frames.specs.declared.kinds.HandlerPhase.TheVariants.{Outside, InHandler, Nested}
use Rattle.xt_frames.specs.HandlerSteps.{closes, returns}
use Rattle.xt_frames.specs.Judging.{Standing, Seen, Handled, Judges, Breaks, step_on, seen_record}
use Rattle.xt_frames.specs.Verdict.{entry_of, is_nested, IsFrameTrace}

-- where a core's last window exception was entered: the state before its record, with the special
-- registers and THREADPTR that nested steps have changed, and the bytes at it; and where its last
-- nested interrupt was taken
pub record Entered : Type 0 where
  pub before : State
  pub opened : ℕ → ℕ
  pub suspended : State
  pub held : ℕ → ℕ

-- one core: its state, what the judge knows of it, and its judged records
pub record Core : Type 0 where
  pub state : State
  pub entered : Entered
  pub standing : Standing
  pub judged : List (Bool × StepRecord)

pub record World : Type 0 where
  pub core0 : Core
  pub core1 : Core
  pub memory : MemoryContents
  pub stale : ℕ → Bool
  -- the accesses of the judged records, in order
  pub entries : List Entry

-- after one turn of a core
pub record Moved : Type 0 where
  pub mine : Core
  pub stale : ℕ → Bool
  pub entries : List Entry

-- a handler step outside handler steps is the record of a window exception
abbrev pub entered_by : HandlerPhase → State → MemoryContents → Entered → Entered
entered_by Outside s m e = record e { before = s; opened = byte_at m }
entered_by InHandler s m e = e
entered_by Nested s m e = e

-- a judged step in handler steps takes a nested interrupt
abbrev pub entered_past : HandlerPhase → State → MemoryContents → State → Entered → Entered
entered_past Outside s m next e = e
entered_past InHandler s m next e =
    record e { before = as_left e.before s next; suspended = s; held = byte_at m }
entered_past Nested s m next e = record e { before = as_left e.before s next }

abbrev pub moved_by :
    Seen → ℕ → Core → MemoryContents → State → StepRecord → (ℕ → Bool) → Option Moved
moved_by (Handled standing) core mine m next rec stale = Some (record {
  mine = record {
    state = next;
    entered = entered_by mine.standing.phase mine.state m mine.entered;
    standing = standing;
    judged = mine.judged;
  };
  stale = stale;
  entries = [];
})
moved_by (Judges standing stale_then) core mine m next rec stale = Some (record {
  mine = record {
    state = next;
    entered = entered_past mine.standing.phase mine.state m next mine.entered;
    standing = standing;
    judged = mine.judged ++ (is_nested mine.standing.phase, rec) ∷ [];
  };
  stale = stale_then;
  entries = entry_of core rec.access rec.reply;
})
moved_by (Breaks kind) core mine m next rec stale = None

abbrev pub move :
    (ℕ → ℕ) → Bounds → Bounds → ℕ → Core → Core → MemoryContents → (ℕ → Bool) → Option Moved
move code b c core mine theirs m stale =
    let rec = record_now code m mine.state in
    moved_by
    (seen_record code b mine.standing (is_live c.range theirs.standing.frame) stale rec)
    core
    mine
    m
    (state_now code m mine.state)
    rec
    stale

abbrev pub moved0 : (ℕ → ℕ) → World → Option Moved → Option World
moved0 code w None = None
moved0 code w (Some x) =
    Some (record {
      core0 = x.mine;
      core1 = w.core1;
      memory = memory_now code w.memory w.core0.state;
      stale = x.stale;
      entries = w.entries ++ x.entries;
    })

abbrev pub moved1 : (ℕ → ℕ) → World → Option Moved → Option World
moved1 code w None = None
moved1 code w (Some x) =
    Some (record {
      core0 = w.core0;
      core1 = x.mine;
      memory = memory_now code w.memory w.core1.state;
      stale = x.stale;
      entries = w.entries ++ x.entries;
    })

-- one turn: of core 0 where the place says so, else of core 1; nothing comes of a breach
abbrev pub world_after_turn : (ℕ → ℕ) → Bounds → Bounds → Bool → World → Option World
world_after_turn code b0 b1 true w =
    moved0 code w (move code b0 b1 0 w.core0 w.core1 w.memory w.stale)
world_after_turn code b0 b1 false w =
    moved1 code w (move code b1 b0 1 w.core1 w.core0 w.memory w.stale)

abbrev pub world_after_turns : (ℕ → ℕ) → Bounds → Bounds → List Bool → Option World → Option World
world_after_turns code b0 b1 [] w = w
world_after_turns code b0 b1 (c ∷ cs) None = None
world_after_turns code b0 b1 (c ∷ cs) (Some w) =
    world_after_turns code b0 b1 cs (world_after_turn code b0 b1 c w)

-- ---- a frame run

abbrev pub frame_after : (ℕ → ℕ) → FrameState → List (Bool × StepRecord) → FrameState
frame_after code f [] = f
frame_after code f (r ∷ rest) = frame_after code (step_on code r.0 r.1 f).after rest

-- the judged records so far are a run of both frame machines over one memory
pub record IsWorldRun
    (code : ℕ → ℕ) (opening : MemoryContents) (f0 f1 : FrameState) (w : World) : Type 0 where
  pub first : IsFrameTrace code f0 w.core0.judged
  pub second : IsFrameTrace code f1 w.core1.judged
  pub legal : IsLegal opening w.entries

abbrev pub Apart : Range → Range → Type 0
Apart r q = (r.hi ≤ q.lo) ⊎ (q.hi ≤ r.lo)

-- ---- whole stretches of handler steps

-- where the core's next turn ends a stretch, the stretch has moved one frame
abbrev pub EndsWell : (ℕ → ℕ) → Bounds → MemoryContents → Core → Type 0
EndsWell code b m c =
    c.standing.phase ≡ InHandler → closes code (planned_turn code c.state).kind c.state.control.pc
    ≡ true
    → MovesFrame
    b
    c.standing.frame
    c.entered.before
    (state_now code m c.state)
    c.entered.opened
    (byte_at m)

-- and each handler step has changed no byte but those of the moved frame's save words
abbrev pub HandlesAlone : (ℕ → ℕ) → Bounds → MemoryContents → Core → Type 0
HandlesAlone code b m c =
    c.standing.phase ≡ InHandler
    → StoresAlone
    b
    c.standing.frame
    c.entered.before
    c.state
    c.entered.opened
    (byte_at m)
    (byte_at (memory_now code m c.state))

-- where the core's next turn begins a nested interrupt, level 5 is pending in the machine with
-- frames too: by the INTERRUPT that it is told, and by its own INTENABLE and PS
abbrev pub IsPending : (ℕ → ℕ) → MemoryContents → Core → Type 0
IsPending code m c =
    c.standing.phase ≡ InHandler → is_nesting (planned_turn code c.state).kind ≡ true
    → pending_of (with_inputs (inputs_of (record_now code m c.state)) c.standing.frame).control
    ≡ nested_level

abbrev pub KeepsStretches : (ℕ → ℕ) → Bounds → MemoryContents → Core → Type 0
KeepsStretches code b m c = EndsWell code b m c × HandlesAlone code b m c × IsPending code m c

-- ---- nested interrupts

-- where the core's next turn ends a nested interrupt and shows no breach, the window handler goes
-- on as it was
abbrev pub GivesBack :
    (ℕ → ℕ) → Bounds → Bounds → ℕ → Core → Core → MemoryContents → (ℕ → Bool) → Type 0
GivesBack code b c core mine theirs m stale =
    (x : Moved) → move code b c core mine theirs m stale ≡ Some x
    → mine.standing.phase ≡ Nested
    → returns code (planned_turn code mine.state).kind mine.state.control.pc ≡ true
    → LeavesHandler
    b
    mine.standing.frame
    mine.entered.suspended
    x.mine.state
    mine.entered.held
    (byte_at m)
