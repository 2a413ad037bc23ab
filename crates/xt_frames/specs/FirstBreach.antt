-- The verdict on a run as a whole ('profile'): the first of its turns that shows a breach. What a
-- turn shows is said by all turns before it, and the walk of the judge plays no part: a law ties it
-- to what is said here.
--
-- Profile: the verdict is the first breach over whole lists (`FirstBreach`). Take the turns of both
-- cores in the order of the schedule. The phase and the frame state before a turn are those after
-- the core's records before it. A byte is stale where it is not live, was live before some earlier
-- turn, and no judged store has touched it since. EPC1 is lost where exception mode ended at an
-- earlier judged step of the core, or a handler step stood there, and no judged step from that one
-- on has written it. The first turn that shows a kind by these is the breach. `Judging` and
-- `Verdict` go through the records one by one instead, as the code does, and keep the stale bytes
-- and whether EPC1 is lost from step to step. The law `verdict_is_first_breach` ties that walk to
-- the lists: its breach, the records that it took as judged, and their accesses. By
-- `first_breach_is_one` there is no other.
use Rattle.std.specs.Prelude.{◌≡◌, ℕ, zero, suc, ◌<◌, ◌≤◌, Bool, true, false, ◌==◌, ◌||◌, not, ◌⊎◌}
use Rattle.std.specs.Prelude.{if◌then◌else◌, Option, Some, None, List, [], ◌∷◌, ◌++◌, length, take}
use Rattle.std.specs.Prelude.{slice_get, Decides}
use Rattle.xt_map.specs.declared.access.Access.{Access}
use Rattle.xt_map.specs.declared.access.Entry.{Entry}
use Rattle.xt_map.specs.Touching.{is_store, touches}
use Rattle.xt_trace.specs.declared.record.StepKind.{StepKind}
use Rattle.xt_trace.specs.declared.record.StepRecord.{StepRecord}
use Rattle.xt_map.specs.Fetching.{fetch_at}
use Rattle.xt_frames.specs.declared.kinds.Breach.{Breach}
use Rattle.xt_frames.specs.declared.kinds.BreachKind.{BreachKind}
use Rattle.xt_frames.specs.Frames.{FrameState}
use Rattle.xt_frames.specs.FrameStep.{FrameTurn, with_inputs}
use Rattle.xt_frames.specs.Nesting.{current, is_nesting}
use Rattle.xt_frames.specs.SaveAreas.{is_live}
use Rattle.xt_frames.specs.declared.kinds.HandlerPhase.{HandlerPhase}
use Rattle.xt_frames.specs.declared.kinds.HandlerPhase.TheVariants.{Outside, InHandler, Nested}
use Rattle.xt_frames.specs.HandlerSteps.{is_window, phase_after}
use Rattle.xt_frames.specs.Breaches.{Bounds, inputs_of, breach_of, window_breach, writes_epc1}
use Rattle.xt_frames.specs.Judging.{step_on}
use Rattle.xt_frames.specs.Verdict.{is_nested, entry_of, opening_known, Judgement, judgement}

-- ---- the turns of a run

-- a record, and its core
pub record Turn : Type 0 where
  pub core : ℕ
  pub rec : StepRecord

abbrev pub turn_of : ℕ → StepRecord → Turn
turn_of core rec = record { core = core; rec = rec }

-- The turns in the order of a schedule: for each number of it the next record of that core. They end
-- where that core has no record left.
abbrev pub turns : List ℕ → List StepRecord → List StepRecord → List Turn
turns [] xs ys = []
turns (zero ∷ cores) [] ys = []
turns (zero ∷ cores) (x ∷ xs) ys = turn_of 0 x ∷ turns cores xs ys
turns (suc core ∷ cores) xs [] = []
turns (suc core ∷ cores) xs (y ∷ ys) = turn_of 1 y ∷ turns cores xs ys

-- a run to be judged: its turns, and by the number of a core what that is judged by and the frame
-- state in which it opens
pub record Course : Type 0 where
  pub code : ℕ → ℕ
  pub bounds : ℕ → Bounds
  pub opening : ℕ → FrameState
  pub turns : List Turn

-- turn p is this record of this core
abbrev pub IsTurn : Course → ℕ → ℕ → StepRecord → Type 0
IsTurn r p core rec = slice_get r.turns p ≡ Some (turn_of core rec)

abbrev pub records_of : ℕ → List Turn → List StepRecord
records_of core [] = []
records_of core (t ∷ ts) =
    if t.core == core then t.rec ∷ records_of core ts else records_of core ts

-- the records of a core before turn p
unfoldable pub records_before : Course → ℕ → ℕ → List StepRecord
records_before r core p = records_of core (take p r.turns)

-- ---- what is judged

-- the phase after records
abbrev pub phases : (ℕ → ℕ) → HandlerPhase → List StepRecord → HandlerPhase
phases code phase [] = phase
phases code phase (rec ∷ rest) = phases code (phase_after code phase rec) rest

-- Outside handler steps, a record of a window exception is a handler step; in handler steps, every
-- record is, but one that begins a nested interrupt. Any other record is judged.
abbrev pub is_judged : HandlerPhase → StepKind → Bool
is_judged Outside kind = not (is_window kind)
is_judged InHandler kind = is_nesting kind
is_judged Nested kind = true

-- the judged among records, each with whether it is nested
abbrev pub judged_of : (ℕ → ℕ) → HandlerPhase → List StepRecord → List (Bool × StepRecord)
judged_of code phase [] = []
judged_of code phase (rec ∷ rest) =
    if is_judged phase rec.kind
    then (is_nested phase, rec) ∷ judged_of code (phase_after code phase rec) rest
    else judged_of code (phase_after code phase rec) rest

-- the frame state after judged records
abbrev pub frames_past : (ℕ → ℕ) → FrameState → List (Bool × StepRecord) → FrameState
frames_past code f [] = f
frames_past code f (r ∷ rest) = frames_past code (step_on code r.0 r.1 f).after rest

-- of a core before turn p: its phase, its judged records, its frame state
unfoldable pub phase_before : Course → ℕ → ℕ → HandlerPhase
phase_before r core p = phases r.code Outside (records_before r core p)

unfoldable pub judged_before : Course → ℕ → ℕ → List (Bool × StepRecord)
judged_before r core p = judged_of r.code Outside (records_before r core p)

unfoldable pub frame_before : Course → ℕ → ℕ → FrameState
frame_before r core p = frames_past r.code (r.opening core) (judged_before r core p)

-- turn p is this record of this core, and a judged step
pub record IsJudgedTurn (r : Course) (p core : ℕ) (rec : StepRecord) : Type 0 where
  pub turn : IsTurn r p core rec
  pub judged : is_judged (phase_before r core p) rec.kind ≡ true

-- the frame machine's step at turn p
abbrev pub step_at : Course → ℕ → ℕ → StepRecord → FrameTurn
step_at r p core rec =
    step_on r.code (is_nested (phase_before r core p)) rec (frame_before r core p)

-- ---- stale bytes

-- the byte is live before turn p, of either core
abbrev pub live_before : Course → ℕ → ℕ → Bool
live_before r p a =
    is_live (r.bounds 0).range (frame_before r 0 p) a
    || is_live (r.bounds 1).range (frame_before r 1 p) a

-- turn i is no judged store that touches the byte
abbrev pub LeavesByte : Course → ℕ → ℕ → Type 0
LeavesByte r i a =
    (core : ℕ) (rec : StepRecord) (access : Access)
    → IsJudgedTurn r i core rec → rec.access ≡ Some access → is_store access.kind ≡ true
    → touches access.addr access.size a ≡ false

-- Before turn p the byte is stale: it is not live, it was live before turn `once`, and no judged
-- store has touched it since.
pub record IsStale (r : Course) (p a : ℕ) : Type 0 where
  pub gone : live_before r p a ≡ false
  pub once : ℕ
  pub earlier : once < p
  pub live : live_before r once a ≡ true
  pub since : (i : ℕ) → once < i → i < p → LeavesByte r i a

-- ---- EPC1

-- the frame state before turn i, with the inputs of its record
abbrev pub frame_with_inputs : Course → ℕ → ℕ → StepRecord → FrameState
frame_with_inputs r i core rec = with_inputs (inputs_of rec) (current (frame_before r core i))

-- exception mode ends at the frame machine's step
abbrev pub EndsMode : Course → ℕ → ℕ → StepRecord → Type 0
EndsMode r i core rec =
    ((frame_with_inputs r i core rec).control.ps.excm ≡ true)
    × ((current (step_at r i core rec).after).control.ps.excm ≡ false)

-- the step writes EPC1
abbrev pub writes_at : Course → ℕ → ℕ → StepRecord → Bool
writes_at r i core rec =
    let f = frame_with_inputs r i core rec in
    writes_epc1 (step_at r i core rec).kind (fetch_at r.code f.control.pc) f.control.ps

-- turn i is no judged step of the core that writes EPC1
abbrev pub LeavesEpc1 : Course → ℕ → ℕ → Type 0
LeavesEpc1 r core i = (rec : StepRecord) → IsJudgedTurn r i core rec → writes_at r i core rec ≡ false

-- Before turn p EPC1 of a core is lost: at an earlier turn of the core, `once`, there was a handler
-- step or exception mode ended, and no judged step from that one on has written EPC1.
pub record IsLost (r : Course) (core p : ℕ) : Type 0 where
  pub once : ℕ
  pub earlier : once < p
  pub rec : StepRecord
  pub turn : IsTurn r once core rec
  pub loses :
      (is_judged (phase_before r core once) rec.kind ≡ false) ⊎ EndsMode r once core rec
  pub since : (i : ℕ) → once ≤ i → i < p → LeavesEpc1 r core i

-- ---- what a turn shows

-- outside handler steps the record of a window exception is tested; any other handler step shows
-- nothing
abbrev pub handler_shows : (ℕ → ℕ) → HandlerPhase → StepRecord → FrameState → Option BreachKind
handler_shows code Outside rec f =
    window_breach code rec.kind (with_inputs (inputs_of rec) (current f))
handler_shows code InHandler rec f = None
handler_shows code Nested rec f = None

-- what a record shows, by the phase and the frame state before it
abbrev pub record_shows :
    (ℕ → ℕ) → Bounds → HandlerPhase → FrameState → Bool → (ℕ → Bool) → (ℕ → Bool) → StepRecord
    → Option BreachKind
record_shows code b phase f lost live stale rec =
    if is_judged phase rec.kind
    then breach_of b (not lost) code live stale (is_nested phase) rec f
    else handler_shows code phase rec f

-- turn p, this record of this core, shows `found`, where `lost` and `stale` tell whether EPC1 is
-- lost and which bytes are stale
pub record Shows
    (r : Course) (p core : ℕ) (rec : StepRecord) (found : Option BreachKind) : Type 0 where
  pub lost : Bool
  pub is_lost : Decides lost (IsLost r core p)
  pub stale : ℕ → Bool
  pub is_stale : (a : ℕ) → Decides (stale a) (IsStale r p a)
  pub shown :
      record_shows
      r.code
      (r.bounds core)
      (phase_before r core p)
      (frame_before r core p)
      lost
      (live_before r p)
      stale
      rec
      ≡ found

-- ---- the first breach

-- turn p shows it, and is the record of its number among the records of its core
pub record IsBreach (r : Course) (p : ℕ) (b : Breach) : Type 0 where
  pub rec : StepRecord
  pub turn : IsTurn r p b.core rec
  pub number : b.step ≡ length (records_before r b.core p)
  pub shows : Shows r p b.core rec (Some b.kind)

abbrev pub EndsIn : Course → ℕ → Option Breach → Type 0
EndsIn r p None = p ≡ length r.turns
EndsIn r p (Some b) = IsBreach r p b

-- No turn before turn p shows a breach, and turn p shows this one; or p counts all turns, and there
-- is none.
pub record IsFirstBreach (r : Course) (p : ℕ) (found : Option Breach) : Type 0 where
  pub before :
      (i core : ℕ) (rec : StepRecord) → i < p → IsTurn r i core rec → Shows r i core rec None
  pub here : EndsIn r p found

-- ---- the walk of the judge

-- the accesses of the judged among the first turns, with their replies
abbrev pub entries_in : Course → ℕ → Option Turn → List Entry
entries_in r p None = []
entries_in r p (Some t) =
    if is_judged (phase_before r t.core p) t.rec.kind
    then entry_of t.core t.rec.access t.rec.reply
    else []

abbrev pub entries_before : Course → ℕ → List Entry
entries_before r zero = []
entries_before r (suc p) = entries_before r p ++ entries_in r p (slice_get r.turns p)

-- it has found the first breach, and what it took as judged are the judged steps before that
pub record IsJudgement (r : Course) (j : Judgement) : Type 0 where
  pub place : ℕ
  pub first : IsFirstBreach r place j.breach
  pub judged0 : j.known.judged0 ≡ judged_before r 0 place
  pub judged1 : j.known.judged1 ≡ judged_before r 1 place
  pub entries : j.known.entries ≡ entries_before r place

-- one of two, by the number of a core
abbrev pub by_core : {A : Type 0} → A → A → ℕ → A
by_core first second zero = first
by_core first second (suc core) = second

abbrev pub WalkFindsFirstBreach : Type 0
WalkFindsFirstBreach =
    (code : ℕ → ℕ) (b0 b1 : Bounds) (cores : List ℕ) (xs ys : List StepRecord) (f0 f1 : FrameState)
    → IsJudgement
    (record {
      code = code;
      bounds = by_core b0 b1;
      opening = by_core f0 f1;
      turns = turns cores xs ys;
    })
    (judgement code b0 b1 cores xs ys (opening_known f0 f1))

-- a run has one first breach, or none
abbrev pub FirstBreachIsOne : Type 0
FirstBreachIsOne =
    (r : Course) (p q : ℕ) (one other : Option Breach)
    → IsFirstBreach r p one → IsFirstBreach r q other → one ≡ other
