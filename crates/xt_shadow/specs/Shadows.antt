-- Carries a proof; nothing that a reader must believe.
-- A core that the judge makes again, and what the judge of records would know of it.
use Rattle.std.specs.Prelude.{◌≡◌, ℕ, ◌+◌, ◌<◌, Bool, true, false, if◌then◌else◌, Option, Some, None}
use Rattle.std.specs.Prelude.{Result, Ok, Err}
use Rattle.std.specs.Prelude.{List, ◌∷◌, length, slice_index_or}
use Rattle.xt_isa.specs.declared.Insn.{Insn}
use Rattle.xt_map.specs.Memory.{constant_byte}
use Rattle.xt_map.specs.History.{replies_of}
use Rattle.xt_image.specs.declared.image.Image.{Image}
use Rattle.xt_trace.specs.declared.record.StepKind.TheVariants as kind
use Rattle.xt_trace.specs.declared.record.StepRecord.{StepRecord}
use Rattle.xt_trace.specs.declared.run.Run.{Run}
use Rattle.xt_trace.specs.Traces.{trace_over}
use Rattle.xt_special.specs.Numbers as number
use Rattle.xt_special.specs.Control.{special_of}
use Rattle.xt_rows.specs.Operands.{reads, special_reads}
use Rattle.xt_exec.specs.State.{State}
use Rattle.xt_exec.specs.States.{file_state}
use Rattle.xt_exec.specs.Chips.{processor}
use Rattle.xt_exec.specs.Turn.{turn}
use Rattle.xt_core.specs.Runs.{code_of, entry_of, opening_at, records_of, turns_of}
use Rattle.xt_frames.specs.declared.kinds.HandlerPhase.TheVariants.{Outside, Nested}
use Rattle.xt_frames.specs.declared.kinds.Judged.{Judged}
use Rattle.xt_frames.specs.declared.kinds.Judged.TheVariants.{Broken, Whole}
use Rattle.xt_frames.specs.Frames.{seen_after_write}
use Rattle.xt_frames.specs.Breaches.{Bounds, is_in_vectors, is_sp}
use Rattle.xt_frames.specs.Judging.{Seen}
use Rattle.xt_frames.specs.Quick.{IsCommon}
use Rattle.xt_frames.specs.Stacks.{Stack}
use Rattle.xt_frames.specs.Verdict.{Judgement, Known, judgement, opening_known, verdict_on}
use Rattle.xt_frames.specs.Walked.{opening_walked, stack_of}
use Rattle.xt_frames.specs.Levels.{levelled}
use Rattle.xt_discipline.specs.declared.bytes.Held.{Held}
use Rattle.xt_discipline.specs.declared.side.Side.{Side}
use Rattle.xt_discipline.specs.declared.walk.Walk.{Walk}
use Rattle.xt_discipline.specs.Sides.{IsSeen, IsSide}
use Rattle.xt_discipline.specs.Verdicts.{opened0, opened1}
use Rattle.xt_discipline.specs.Walks.{Knows, Reaches, Turns}
use Rattle.xt_discipline.specs.Walks as walks
use Rattle.xt_shadow.specs.declared.cores.ShadowCore.{ShadowCore}
use Rattle.xt_shadow.specs.declared.cores.End.{End}
use Rattle.xt_shadow.specs.declared.cores.End.TheVariants.{Is, Lost}
use Rattle.xt_shadow.specs.declared.walk.ShadowWalk.{ShadowWalk}
use Rattle.xt_shadow.specs.InStep.{AgreesAt, IsNoEpc1, IsPlain, IsReady}
use Rattle.xt_shadow.specs.Quiet.{IsPassedBy}

-- the processor's core before the next turn
abbrev pub core_state : ShadowCore → State
core_state c = file_state c.regs

-- the records of the turns that are left
abbrev pub records_left : (ℕ → ℕ) → ShadowCore → List StepRecord
records_left code c = (trace_over (processor code) (core_state c) c.left c.replies).records

-- ---- what the judge of records would know

-- in step, with frames that are up to date
abbrev pub in_step : ShadowCore → Side
in_step c = record c.side {
  frames = record c.side.frames {
    state = levelled c.side.frames.state c.seen (core_state c).control;
    next = c.side.steps;
  };
}

abbrev pub shown : ShadowCore → Side
shown c = if c.level then in_step c else c.side

-- the same core, whose frames are up to date
abbrev pub settled : ShadowCore → ShadowCore
settled c = record c { side = shown c; level = false }

-- ---- what holds of it

pub record IsLevelled (c : ShadowCore) : Type 0 where
  pub plain : c.plain ≡ true
  pub outside : c.side.phase ≡ Outside
  pub sp : slice_index_or c.seen 1 None ≡ slice_index_or c.side.frames.state.seen 1 None
  pub stack : Stack c.side.frames.bounds.range.lo c.side.frames.bounds.range.hi c.seen
      c.side.frames.state.frames

pub record IsCore (c : ShadowCore) : Type 0 where
  pub side : IsSide c.side
  pub vectors : c.vecbase ≡ c.side.frames.bounds.vecbase
  pub count : length (core_state c).control.special ≡ 256
  pub plain : c.plain ≡ true → IsPlain c.side.frames.state
  pub nested : c.side.phase ≡ Nested → c.plain ≡ false
  pub level : c.level ≡ true → IsLevelled c

-- ---- a turn

-- the turn has begun; the core is in step only where the turn was ready for that
pub record IsStarted (code : ℕ → ℕ) (old new : ShadowCore) : Type 0 where
  pub side : new.side ≡ (if new.level then old.side else shown old)
  pub seen : new.seen ≡ old.seen
  pub plain : new.plain ≡ old.plain
  pub vectors : new.vecbase ≡ old.vecbase
  pub left : new.left ≡ old.left
  pub level : new.level ≡ true → old.level ≡ true
  pub ready : new.level ≡ true → IsReady code old.vecbase old.seen (core_state old)

-- the turn is made, with this record
pub record IsMade (code : ℕ → ℕ) (old new : ShadowCore) (rec : StepRecord) : Type 0 where
  pub state : (rec, core_state new) ≡ turn code (core_state old) rec.reply
  pub records : records_left code old ≡ rec ∷ records_left code new
  pub owb : (core_state old).control.ps.owb < 16
  pub side : new.side ≡ (if new.level then old.side else shown old)
  pub seen : new.seen ≡ old.seen
  pub plain : new.plain ≡ old.plain
  pub vectors : new.vecbase ≡ old.vecbase
  pub level : new.level ≡ true → old.level ≡ true
  pub ready : new.level ≡ true → IsReady code old.vecbase old.seen (core_state old)

-- what is tested of an instruction that is to be made in step
pub record IsReadyFor (i : Insn) (c : ShadowCore) : Type 0 where
  pub level : c.level ≡ true
  pub common : IsCommon i
  pub excm : (core_state c).control.ps.excm ≡ false
  pub vectors : special_of (core_state c).control number.vecbase ≡ c.vecbase
  pub outside : is_in_vectors c.vecbase (core_state c).control.pc ≡ false
  pub first : AgreesAt c.seen (core_state c) (reads i).0
  pub second : AgreesAt c.seen (core_state c) (reads i).1
  pub special : IsNoEpc1 (special_reads i).0
  pub other : IsNoEpc1 (special_reads i).1

-- ---- what is judged of it

-- in step: no breach
pub record IsPassedOn (old new : ShadowCore) (m n : List Held) (rec : StepRecord) : Type 0 where
  pub insn : rec.kind ≡ kind.Insn
  pub sp : is_sp rec.write ≡ false
  pub woe : (core_state old).control.ps.woe ≡ true
  pub vectors : special_of (core_state old).control number.vecbase ≡ old.vecbase
  pub access : IsPassedBy m n rec.access
  pub new_is : new ≡ record old {
    seen = seen_after_write rec.write old.seen;
    side = record old.side { steps = old.side.steps + 1 };
  }

abbrev pub IsPassed :
    ShadowCore → ShadowCore → List Held → List Held → StepRecord → Result Unit End → Type 0
IsPassed old new m n rec (Ok u) = IsPassedOn old new m n rec
IsPassed old new m n rec (Err Lost) = Unit {0}
IsPassed old new m n rec (Err (Is j)) = ⊥

-- the answer is what the definition sees in the record
abbrev pub IsSeenBy :
    ShadowCore → ShadowCore → List Held → (ℕ → Bool) → (ℕ → Bool) → Seen → Result Unit End → Type 0
IsSeenBy old new n others stale x (Ok u) =
    IsSeen (shown old) (shown new) n others stale x (Ok u) × IsCore new
IsSeenBy old new n others stale x (Err (Is (Broken b))) =
    IsSeen (shown old) (shown new) n others stale x (Err b)
IsSeenBy old new n others stale x (Err Lost) = Unit {0}
IsSeenBy old new n others stale x (Err (Is j)) = ⊥

-- and of the turn, if there is one
abbrev pub IsTurned :
    (ℕ → ℕ) → ShadowCore → ShadowCore → List Held → (ℕ → Bool) → (ℕ → Bool) → Result Unit End
    → Type 0
IsTurned code old new n others stale (Ok u) =
    Turns code (shown old) (shown new) n others stale (records_left code old)
    (records_left code new)
    (Ok u)
    × IsCore new
IsTurned code old new n others stale (Err (Is j)) =
    Turns code (shown old) (shown new) n others stale (records_left code old)
    (records_left code new)
    (Err j)
IsTurned code old new n others stale (Err Lost) = Unit {0}

-- ---- a core as it opens
pub record IsOpenedCore (image : Image) (r : Run) (core : ℕ) (c : ShadowCore) : Type 0 where
  pub side : c.side ≡ record {
    core = core;
    hi = (stack_of core r.options).hi;
    frames = opening_walked core (entry_of core image r.options) r.options;
    phase = Outside;
    steps = 0;
  }
  pub state : core_state c ≡ opening_at core (entry_of core image r.options) r.options
  pub left : c.left ≡ turns_of core r.options
  pub replies : c.replies ≡ replies_of core r.history
  pub level : c.level ≡ false
  pub vectors : c.vecbase ≡ r.options.vecbase

-- ---- both cores

-- what the walk of the judge of records would be
abbrev pub shown_walk : ShadowWalk → Walk
shown_walk w = record {
  code = w.code;
  side0 = shown w.side0;
  side1 = shown w.side1;
  marks = w.marks;
}

pub record AreCores (w : ShadowWalk) : Type 0 where
  pub zero : IsCore w.side0
  pub one : IsCore w.side1

pub record KnowsBoth (w : ShadowWalk) (b0 b1 : Bounds) (k : Known) : Type 0 where
  pub cores : AreCores w
  pub knows : Knows (shown_walk w) b0 b1 k

-- what a turn of a core comes to
abbrev pub IsWalked :
    (ℕ → ℕ) → Bounds → Bounds → ℕ → Known → ShadowWalk → ShadowWalk → Result Unit End → Type 0
IsWalked code b0 b1 core k old new (Ok u) =
    walks.IsTurned code b0 b1 core k (records_left code old.side0) (records_left code old.side1)
    (shown_walk new)
    (records_left code new.side0)
    (records_left code new.side1)
    (Ok u)
    × AreCores new
IsWalked code b0 b1 core k old new (Err (Is j)) =
    walks.IsTurned code b0 b1 core k (records_left code old.side0) (records_left code old.side1)
    (shown_walk new)
    (records_left code new.side0)
    (records_left code new.side1)
    (Err j)
IsWalked code b0 b1 core k old new (Err Lost) = Unit {0}

-- what is judged where the cores have these records, and the walk ends so
abbrev pub IsFound : Judgement → Result Unit End → Type 0
IsFound j (Ok u) = Whole ≡ verdict_on j.breach
IsFound j (Err (Is x)) = x ≡ verdict_on j.breach
IsFound j (Err Lost) = Unit {0}

abbrev pub IsFoundIn : Judgement → Option Judged → Type 0
IsFoundIn j None = Unit {0}
IsFoundIn j (Some x) = x ≡ verdict_on j.breach

-- over the records that are left, in this order
abbrev pub judged_from : (ℕ → ℕ) → Bounds → Bounds → List ℕ → Known → ShadowWalk → Judgement
judged_from code b0 b1 cores k w =
    judgement code b0 b1 cores (records_left code w.side0) (records_left code w.side1) k

-- so many turns are walked
pub record HasReached
    (code : ℕ → ℕ) (b0 b1 : Bounds) (k : Known) (cores : List ℕ) (old w : ShadowWalk)
    (turns : ℕ) : Type 0 where
  pub cores_are : AreCores w
  pub reaches : Reaches code b0 b1 k cores (records_left code old.side0)
      (records_left code old.side1) (shown_walk w) turns (records_left code w.side0)
      (records_left code w.side1)

-- both cores of a run of an image as it opens
pub record IsOpenedWalk (image : Image) (r : Run) (w : ShadowWalk) : Type 0 where
  pub code_is : constant_byte w.code ≡ code_of image
  pub both : KnowsBoth w (opened0 image r.options).bounds (opened1 r.options).bounds
      (opening_known (opened0 image r.options).state (opened1 r.options).state)
  pub steps0 : (shown w.side0).steps ≡ 0
  pub steps1 : (shown w.side1).steps ≡ 0
  pub records0 : records_left (code_of image) w.side0 ≡ (records_of 0 image r).records
  pub records1 : records_left (code_of image) w.side1 ≡ (records_of 1 image r).records
