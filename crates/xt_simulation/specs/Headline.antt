-- Windows are frames: the judged part of a run of the processor with windows is a
-- run of the machine with unbounded call frames ('profile': the definitions of
-- xt_frames over the processor's).
--
-- Note: `WindowsAreFrames` has the conditions of STACK.md, and `IsRunnable`: what is a word by its
-- type is one and the options are valid.
-- Note: `StretchesOfImages` is about each position before the first breach, and that is the
-- verdict's: where the judge's walk over the first p turns of the schedule (`judged_in` over `take
-- p`) shows no breach, there is a `Position`. If it finds a breach, that breach is the verdict
-- (`BreachesStay`). At a `Position` the walk beside the judge knows what the judge knows (`Knows`)
-- and stands where the run does (`StandsAt`), and each core keeps `EndsWell`, `HandlesAlone`,
-- `IsPending` and `GivesBack`. The first two are about a core whose next turn is a handler's; they
-- rest on `MovesFrame` and `StoresAlone`, on `Steps` here and on `Machines` of `xt_handlers`. In the
-- state before the stretch, with which they compare, THREADPTR and each special register that a
-- nested step has changed are as that step has left them (`as_left`). `IsPending` is about a core
-- whose next turn begins a nested interrupt: of the frame state, with the INTERRUPT of the record,
-- level 5 is the one that is taken. `GivesBack` is about a core whose next turn is an RFI 5 that
-- ends a nested interrupt and shows no breach: the core is afterwards in what `LeavesHandler` names
-- as it was when the interrupt was taken. `NestedGiveBack` says the same of any list of turns.
-- Profile: `ImagesAreAllJudged`: where the walk shows no breach, what it has judged is all that is
-- judged of both traces (`judged_of` of `FirstBreach`).
use Rattle.std.specs.Prelude.{◌≡◌, ℕ, zero, suc, Bool, true, false, Some, None, List, [], ◌∷◌}
use Rattle.std.specs.Prelude.{take}
use Rattle.xt_map.specs.declared.segment.Segment.{Segment}
use Rattle.xt_map.specs.Memory.{constant_byte}
use Rattle.xt_map.specs.History.{replies_of}
use Rattle.xt_trace.specs.declared.options.Options.{Options}
use Rattle.xt_trace.specs.declared.record.StepRecord.{StepRecord}
use Rattle.xt_map.specs.Code.{AreBytes}
use Rattle.xt_trace.specs.Traces.{trace_over}
use Rattle.xt_trace.specs.Runs.{Opening, Run, world_at_start, IsRunOf, schedule_of}
use Rattle.xt_trace.specs.Short.{ShortRun, IsShortRunOf, short_schedule}
use Rattle.xt_trace.specs.Walks.{IsWalk, state_at}
use Rattle.xt_trace.specs.Worlds as worlds
use Rattle.xt_exec.specs.State.{State}
use Rattle.xt_exec.specs.Chips.{processor}
use Rattle.xt_frames.specs.declared.kinds.Breach.{Breach}
use Rattle.xt_frames.specs.FirstBreach.{judged_of}
use Rattle.xt_frames.specs.declared.kinds.HandlerPhase.TheVariants.{Outside}
use Rattle.xt_frames.specs.Verdict.{Known, Judgement, judgement, opening_known, IsFrameRun}
use Rattle.xt_handlers.specs.declared.stretch.Side.TheVariants.{Overflow, Underflow}
use Rattle.xt_handlers.specs.declared.stretch.HandlerVerdict.TheVariants.{Yes}
use Rattle.xt_handlers.specs.Vectors.{verdict_of, Handlers}
use Rattle.xt_simulation.specs.Walking.{World, world_after_turns, GivesBack, KeepsStretches}
use Rattle.xt_simulation.specs.Walking.{IsWorldRun, Apart}
use Rattle.xt_simulation.specs.Opening.{Openings, IsOpening, bounds0, bounds1, state0, state1}
use Rattle.xt_simulation.specs.Opening.{frame0, frame1, memory_of, frame_of, opening_world}
use Rattle.xt_simulation.specs.Opening.{openings_of, IsRunnable}

-- what stands before every statement: the six handlers pass the check, and the stacks are apart
pub record IsCovered (o : Openings) (code : ℕ → ℕ) : Type 0 where
  pub opening : IsOpening o
  pub bytes : AreBytes code
  pub handlers : Handlers code o.vecbase
  pub apart : Apart o.range0 o.range1

-- it is enough that each of the six does
pub record SixHandle (code : ℕ → ℕ) (vecbase : ℕ) : Type 0 where
  pub of4 : verdict_of code vecbase Overflow 1 ≡ Yes
  pub uf4 : verdict_of code vecbase Underflow 1 ≡ Yes
  pub of8 : verdict_of code vecbase Overflow 2 ≡ Yes
  pub uf8 : verdict_of code vecbase Underflow 2 ≡ Yes
  pub of12 : verdict_of code vecbase Overflow 3 ≡ Yes
  pub uf12 : verdict_of code vecbase Underflow 3 ≡ Yes

abbrev pub SixSuffice : Type 0
SixSuffice = (code : ℕ → ℕ) (vecbase : ℕ) → SixHandle code vecbase → Handlers code vecbase

-- over any schedule of turns the judged records before the first breach are a run of both frame
-- machines
abbrev pub TurnsAreFrames : Type 0
TurnsAreFrames =
    (o : Openings) (code : ℕ → ℕ) → IsCovered o code
    → (cores : List Bool) (w : World)
    → world_after_turns code (bounds0 o) (bounds1 o) cores (Some (opening_world o)) ≡ Some w
    → IsWorldRun code (memory_of o) (frame_of (state0 o)) (frame_of (state1 o)) w

-- and at each place of it, where a core's next turn ends a stretch of handler steps, the stretch
-- has moved one frame; and where it begins a nested interrupt, the frame state has it pending too
abbrev pub StretchesMoveFrames : Type 0
StretchesMoveFrames =
    (o : Openings) (code : ℕ → ℕ) → IsCovered o code
    → (cores : List Bool) (w : World)
    → world_after_turns code (bounds0 o) (bounds1 o) cores (Some (opening_world o)) ≡ Some w
    → KeepsStretches code (bounds0 o) w.memory w.core0
    × KeepsStretches code (bounds1 o) w.memory w.core1

-- where a core's next turn ends a nested interrupt, the window handler goes on as it was
abbrev pub NestedGiveBack : Type 0
NestedGiveBack =
    (o : Openings) (code : ℕ → ℕ) → IsCovered o code
    → (cores : List Bool) (w : World)
    → world_after_turns code (bounds0 o) (bounds1 o) cores (Some (opening_world o)) ≡ Some w
    → GivesBack code (bounds0 o) (bounds1 o) 0 w.core0 w.core1 w.memory w.stale
    × GivesBack code (bounds1 o) (bounds0 o) 1 w.core1 w.core0 w.memory w.stale

-- what a run of the processor opens with
abbrev pub opening_of : Openings → ℕ → ℕ → Opening State
opening_of o turns0 turns1 = record {
  memory = memory_of o;
  state0 = state0 o;
  state1 = state1 o;
  turns0 = turns0;
  turns1 = turns1;
}

-- the walk of the judge over these records of both cores, in this order
abbrev pub judged_in :
    Openings → (ℕ → ℕ) → List ℕ → List StepRecord → List StepRecord → Judgement
judged_in o code cores xs ys =
    judgement code (bounds0 o) (bounds1 o) cores xs ys (opening_known (frame0 o) (frame1 o))

abbrev pub AreFrames : Openings → (ℕ → ℕ) → Judgement → Type 0
AreFrames o code j = IsFrameRun code (memory_of o) (frame0 o) (frame1 o) j.known

-- a walk over the records of the processor's turns judges a frame run
abbrev pub WalksAreFrames : Type 0
WalksAreFrames =
    (o : Openings) (code : ℕ → ℕ) (turns0 turns1 : ℕ) → IsCovered o code
    → (cores : List ℕ) (xs ys : List StepRecord)
    → IsWalk (processor code) cores (world_at_start (opening_of o turns0 turns1)) xs ys
    → AreFrames o code (judged_in o code cores xs ys)

-- and so of every run: its history is legal and its traces are the processor's over the replies
abbrev pub RunsAreFrames : Type 0
RunsAreFrames =
    (o : Openings) (code : ℕ → ℕ) (turns0 turns1 : ℕ) (r : Run State) → IsCovered o code
    → IsRunOf (processor code) (opening_of o turns0 turns1) r
    → AreFrames o code (judged_in o code (schedule_of r) r.trace0.records r.trace1.records)

-- ---- positions of a run

-- the turns of a schedule: of core 0 where the number is 0
abbrev pub turns_of : List ℕ → List Bool
turns_of [] = []
turns_of (zero ∷ cores) = true ∷ turns_of cores
turns_of (suc core ∷ cores) = false ∷ turns_of cores

-- A breach that the judge's walk shows over the first p turns of a schedule is the verdict's, whose
-- walk ends with it. So where it shows none there, position p is before the verdict's first breach.
abbrev pub BreachesStay : Type 0
BreachesStay =
    (o : Openings) (code : ℕ → ℕ) (cores : List ℕ) (xs ys : List StepRecord) (p : ℕ) (b : Breach)
    → (judged_in o code (take p cores) xs ys).breach ≡ Some b
    → judged_in o code cores xs ys ≡ judged_in o code (take p cores) xs ys

-- the walk stands where the run does
pub record StandsAt (w : World) (v : worlds.World State) : Type 0 where
  pub state0 : w.core0.state ≡ v.core0.state
  pub state1 : w.core1.state ≡ v.core1.state
  pub memory : w.memory ≡ v.line.memory

-- and knows what the judge knows
pub record Knows (w : World) (k : Known) : Type 0 where
  pub standing0 : w.core0.standing ≡ k.standing0
  pub standing1 : w.core1.standing ≡ k.standing1
  pub stale : w.stale ≡ k.stale
  pub judged0 : w.core0.judged ≡ k.judged0
  pub judged1 : w.core1.judged ≡ k.judged1
  pub entries : w.entries ≡ k.entries

-- The first p turns of a schedule have been walked, beside a judge that knows k past them. The walk
-- stands where the run does. Where a core's next turn ends a stretch of handler steps, the stretch
-- has moved one frame; where it begins a nested interrupt, that is pending in the frame state too;
-- where it ends one and shows no breach, the window handler gets back what it had.
pub record Position
    (o : Openings) (code : ℕ → ℕ) (turns0 turns1 : ℕ) (cores : List ℕ) (p : ℕ) (k : Known)
    : Type 0 where
  pub world : World
  pub reached : world_after_turns code (bounds0 o) (bounds1 o) (turns_of (take p cores))
      (Some (opening_world o)) ≡ Some world
  pub knows : Knows world k
  pub stands : StandsAt world
      (state_at (processor code) (opening_of o turns0 turns1) cores p)
  pub moves0 : KeepsStretches code (bounds0 o) world.memory world.core0
  pub moves1 : KeepsStretches code (bounds1 o) world.memory world.core1
  pub returns0 : GivesBack code (bounds0 o) (bounds1 o) 0 world.core0 world.core1 world.memory
      world.stale
  pub returns1 : GivesBack code (bounds1 o) (bounds0 o) 1 world.core1 world.core0 world.memory
      world.stale

-- At each position p before the first breach, which is the verdict's: where the judge's own walk over
-- the first p turns of the schedule and these records of both cores shows none.
abbrev pub HaveMovedFrames :
    Openings → (ℕ → ℕ) → ℕ → ℕ → List ℕ → List StepRecord → List StepRecord → Type 0
HaveMovedFrames o code turns0 turns1 cores xs ys =
    (p : ℕ)
    → (judged_in o code (take p cores) xs ys).breach ≡ None
    → Position o code turns0 turns1 cores p (judged_in o code (take p cores) xs ys).known

-- so of every run, in the order of its schedule
abbrev pub StretchesOfRuns : Type 0
StretchesOfRuns =
    (o : Openings) (code : ℕ → ℕ) (turns0 turns1 : ℕ) (r : Run State) → IsCovered o code
    → IsRunOf (processor code) (opening_of o turns0 turns1) r
    → HaveMovedFrames o code turns0 turns1 (schedule_of r) r.trace0.records r.trace1.records

-- where the judge's walk shows no breach, the records that it has judged are all of both traces but
-- their handler steps
abbrev pub AreAllJudged :
    Openings → (ℕ → ℕ) → List ℕ → List StepRecord → List StepRecord → Type 0
AreAllJudged o code cores xs ys =
    (judged_in o code cores xs ys).breach ≡ None
    → ((judged_in o code cores xs ys).known.judged0 ≡ judged_of code Outside xs)
    × ((judged_in o code cores xs ys).known.judged1 ≡ judged_of code Outside ys)

-- so of every run
abbrev pub RunsAreAllJudged : Type 0
RunsAreAllJudged =
    (o : Openings) (code : ℕ → ℕ) (turns0 turns1 : ℕ) (r : Run State)
    → IsRunOf (processor code) (opening_of o turns0 turns1) r
    → AreAllJudged o code (schedule_of r) r.trace0.records r.trace1.records

-- ---- a run of an image, of which the history and the places of the accesses are kept

-- the records of its traces, which are the processor's over the replies of its history
abbrev pub records0 : Openings → (ℕ → ℕ) → ℕ → ShortRun State → List StepRecord
records0 o code turns r =
    (trace_over (processor code) (state0 o) turns (replies_of 0 r.history)).records

abbrev pub records1 : Openings → (ℕ → ℕ) → ℕ → ShortRun State → List StepRecord
records1 o code turns r =
    (trace_over (processor code) (state1 o) turns (replies_of 1 r.history)).records

-- what is judged of it, in the order of its own schedule
abbrev pub judgement_of : List Segment → ℕ → Options → ShortRun State → Judgement
judgement_of segments entry o r =
    let at = openings_of segments entry o in
    let code = constant_byte segments in
    judged_in
    at
    code
    (short_schedule r)
    (records0 at code o.turns0 r)
    (records1 at code o.turns1 r)

-- and what holds at each position of it before the first breach
abbrev pub RunHasMovedFrames : List Segment → ℕ → Options → ShortRun State → Type 0
RunHasMovedFrames segments entry o r =
    let at = openings_of segments entry o in
    let code = constant_byte segments in
    HaveMovedFrames
    at
    code
    o.turns0
    o.turns1
    (short_schedule r)
    (records0 at code o.turns0 r)
    (records1 at code o.turns1 r)

-- and where there is none, what it has judged is all that is judged of its traces
abbrev pub RunIsAllJudged : List Segment → ℕ → Options → ShortRun State → Type 0
RunIsAllJudged segments entry o r =
    let at = openings_of segments entry o in
    let code = constant_byte segments in
    AreAllJudged
    at
    code
    (short_schedule r)
    (records0 at code o.turns0 r)
    (records1 at code o.turns1 r)

-- it is a run of the processor from the image's opening
abbrev pub IsRunOfImage : List Segment → ℕ → Options → ShortRun State → Type 0
IsRunOfImage segments entry o r =
    IsShortRunOf
    (processor (constant_byte segments))
    (opening_of (openings_of segments entry o) o.turns0 o.turns1)
    r

-- The headline: where the six window handlers pass their check and the two stacks are apart, the
-- judged records of a run before the first breach are a run of the machine with unbounded call
-- frames, over one legal history.
abbrev pub WindowsAreFrames : Type 0
WindowsAreFrames =
    (segments : List Segment) (entry : ℕ) (o : Options) (r : ShortRun State)
    → IsRunnable segments entry o
    → Handlers (constant_byte segments) o.vecbase
    → Apart (openings_of segments entry o).range0 (openings_of segments entry o).range1
    → IsRunOfImage segments entry o r
    → AreFrames
    (openings_of segments entry o)
    (constant_byte segments)
    (judgement_of segments entry o r)

-- And at each position before the first breach its whole stretches of handler steps have each moved
-- one frame, and its nested interrupts are pending in that machine too, and give the window handler
-- back what it had.
abbrev pub StretchesOfImages : Type 0
StretchesOfImages =
    (segments : List Segment) (entry : ℕ) (o : Options) (r : ShortRun State)
    → IsRunnable segments entry o
    → Handlers (constant_byte segments) o.vecbase
    → Apart (openings_of segments entry o).range0 (openings_of segments entry o).range1
    → IsRunOfImage segments entry o r
    → RunHasMovedFrames segments entry o r

-- Where there is no first breach, the judged records are all records of both traces but their
-- handler steps.
abbrev pub ImagesAreAllJudged : Type 0
ImagesAreAllJudged =
    (segments : List Segment) (entry : ℕ) (o : Options) (r : ShortRun State)
    → IsRunOfImage segments entry o r → RunIsAllJudged segments entry o r
