-- Carries a proof; nothing that a reader must believe.
-- A core that the walk makes again, and what the walk over records would know of it.
use Rattle.std.specs.Prelude.{◌≡◌, ℕ, ◌+◌, ◌<◌, Bool, true, false, if◌then◌else◌, Option, Some, None}
use Rattle.std.specs.Prelude.{Result, Ok, Err}
use Rattle.std.specs.Prelude.{List, ◌∷◌, length, slice_index_or, slice_set}
use Rattle.xt_isa.specs.declared.Insn.{Insn}
use Rattle.xt_map.specs.History.{replies_of}
use Rattle.xt_map.specs.declared.access.Access.{Access}
use Rattle.xt_image.specs.declared.image.Image.{Image}
use Rattle.xt_trace.specs.declared.record.RegWrite.{RegWrite}
use Rattle.xt_trace.specs.declared.record.StepKind.TheVariants as kind
use Rattle.xt_trace.specs.declared.record.StepRecord.{StepRecord}
use Rattle.xt_trace.specs.declared.run.Run.{Run}
use Rattle.xt_trace.specs.Traces.{trace_over}
use Rattle.xt_special.specs.Numbers as number
use Rattle.xt_special.specs.Control.{special_of}
use Rattle.xt_rows.specs.Operands.{reads, special_reads}
use Rattle.xt_rows.specs.RowLaws.{IsProperWrite, IsWord}
use Rattle.xt_exec.specs.State.{State}
use Rattle.xt_exec.specs.States.{file_state}
use Rattle.xt_exec.specs.Chips.{processor}
use Rattle.xt_exec.specs.Turn.{turn}
use Rattle.xt_core.specs.Runs.{code_of, entry_of, opening_at, records_of, turns_of}
use Rattle.xt_frames.specs.declared.kinds.HandlerPhase.TheVariants.{Outside, Nested}
use Rattle.xt_frames.specs.Frames.{seen_after_write}
use Rattle.xt_frames.specs.Breaches.{Bounds, is_in_vectors, is_sp}
use Rattle.xt_frames.specs.Quick.{IsCommon}
use Rattle.xt_frames.specs.Stacks.{Stack}
use Rattle.xt_frames.specs.Walked.{stack_of}
use Rattle.xt_discipline.specs.Verdicts.{course_of}
use Rattle.xt_shadow.specs.InStep.{AgreesAt, IsNoEpc1, IsPlain, IsReady}
use Rattle.xt_shadow.specs.Lookups.{IsOperand}
use Rattle.xt_uses.specs.declared.discipline.Discipline.{Discipline}
use Rattle.xt_uses.specs.declared.told.JudgeError.TheVariants as stopped
use Rattle.xt_uses.specs.Lacks.{lacks_before}
use Rattle.xt_uses.specs.UseLevels.{use_levelled}
use Rattle.xt_uses.specs.UseParts.{opened_use}
use Rattle.xt_uses.specs.UseWalk.{UseJudgement, UseKnown, use_judgement, use_seen}
use Rattle.xt_uses.specs.Words.{all_bits}
use Rattle.xt_use_walk.specs.declared.side.Bytes.{Bytes}
use Rattle.xt_use_walk.specs.declared.side.Side.{Side}
use Rattle.xt_use_walk.specs.declared.walk.FirstUse.{FirstUse}
use Rattle.xt_use_walk.specs.declared.walk.Uses.{Uses}
use Rattle.xt_use_walk.specs.MaskedBytes.{AreMasks, IsSpared, mask_at, stored_over}
use Rattle.xt_use_walk.specs.Sides.{IsUseSeen, IsUseSide, standing_of}
use Rattle.xt_use_walk.specs.Verdicts.{IsUsesOf}
use Rattle.xt_use_walk.specs.Walks.{IsShown, IsTold, IsWhole, Knows, NoRecord, Reaches, Shows, Turns}
use Rattle.xt_use_walk.specs.Walks.{Walk}
use Rattle.xt_use_walk.specs.Walks as walks
use Rattle.xt_use_shadow.specs.declared.cores.UseShadow.{UseShadow}
use Rattle.xt_use_shadow.specs.declared.seeing.End.{End}
use Rattle.xt_use_shadow.specs.declared.seeing.End.TheVariants.{NoTurn, Breaks, NoMemory, Lost}
use Rattle.xt_use_shadow.specs.declared.walk.UseShadowWalk.{UseShadowWalk}

-- the processor's core before the next turn
abbrev pub core_state : UseShadow → State
core_state c = file_state c.regs

-- the records of the turns that are left
abbrev pub records_left : (ℕ → ℕ) → UseShadow → List StepRecord
records_left code c = (trace_over (processor code) (core_state c) c.left c.replies).records

-- ---- what the walk over records would know

-- in step, with frames that are up to date
abbrev pub in_step : UseShadow → Side
in_step c = record c.side {
  uses = record c.side.uses {
    state = use_levelled c.side.uses.state c.seen c.masks (core_state c).control;
    next = c.side.steps;
  };
}

abbrev pub shown : UseShadow → Side
shown c = if c.level then in_step c else c.side

-- the same core, whose frames are up to date
abbrev pub settled : UseShadow → UseShadow
settled c = record c { side = shown c; level = false }

-- ---- what holds of it

-- the stack pointer is that of the frames
abbrev pub HasSp : UseShadow → Type 0
HasSp c = slice_index_or c.seen 1 None ≡ slice_index_or c.side.uses.state.frame.seen 1 None

pub record IsLevelled (c : UseShadow) : Type 0 where
  pub may_step : c.may_step ≡ true
  pub outside : c.side.phase ≡ Outside
  pub sp : HasSp c
  pub stack : Stack c.side.uses.bounds.range.lo c.side.uses.bounds.range.hi c.seen
      c.side.uses.state.frame.frames

pub record IsCore (c : UseShadow) : Type 0 where
  pub side : IsUseSide c.side
  pub vectors : c.vecbase ≡ c.side.uses.bounds.vecbase
  pub count : length (core_state c).control.special ≡ 256
  pub plain : c.may_step ≡ true → IsPlain c.side.uses.state.frame
  pub nested : c.side.phase ≡ Nested → c.may_step ≡ false
  pub level : c.level ≡ true → IsLevelled c

-- ---- a turn

-- each bit of the register, if there is one, is known
abbrev pub KnownAt : List ℕ → Option ℕ → Type 0
KnownAt masks None = Unit {0}
KnownAt masks (Some k) = slice_index_or masks k 0 ≡ all_bits

-- each bit of what an instruction reads is known
pub record AreKnown (i : Insn) (masks : List ℕ) : Type 0 where
  pub first : KnownAt masks (reads i).0
  pub second : KnownAt masks (reads i).1
  pub special : IsOperand (special_reads i).0

-- the next turn can be made in step
pub record IsUseReady
    (code : ℕ → ℕ) (vecbase : ℕ) (seen : List (Option ℕ)) (masks : List ℕ) (s : State) : Type 0
  where
    pub ready : IsReady code vecbase seen s
    pub known : AreKnown ready.i masks

-- the turn has begun; the core is in step only where the turn was ready for that
pub record IsStarted (code : ℕ → ℕ) (old new : UseShadow) : Type 0 where
  pub side : new.side ≡ (if new.level then old.side else shown old)
  pub seen : new.seen ≡ old.seen
  pub masks : new.masks ≡ old.masks
  pub may_step : new.may_step ≡ old.may_step
  pub vectors : new.vecbase ≡ old.vecbase
  pub left : new.left ≡ old.left
  pub level : new.level ≡ true → old.level ≡ true
  pub ready :
      new.level ≡ true → IsUseReady code old.vecbase old.seen old.masks (core_state old)

-- before its access the core stays in step only where that shows nothing
pub record IsAsked (bytes : Bytes) (access : Access) (old new : UseShadow) : Type 0 where
  pub stays : new.level ≡ true → new ≡ old
  pub whole : new.level ≡ false → new ≡ settled old
  pub spared : new.level ≡ true → IsSpared bytes (Some access)

-- the turn is made, with this record
pub record IsMade (code : ℕ → ℕ) (bytes : Bytes) (old new : UseShadow) (rec : StepRecord) : Type 0
  where
    pub state : (rec, core_state new) ≡ turn code (core_state old) rec.reply
    pub records : records_left code old ≡ rec ∷ records_left code new
    pub owb : (core_state old).control.ps.owb < 16
    pub side : new.side ≡ (if new.level then old.side else shown old)
    pub seen : new.seen ≡ old.seen
    pub masks : new.masks ≡ old.masks
    pub may_step : new.may_step ≡ old.may_step
    pub vectors : new.vecbase ≡ old.vecbase
    pub level : new.level ≡ true → old.level ≡ true
    pub ready :
        new.level ≡ true → IsUseReady code old.vecbase old.seen old.masks (core_state old)
    pub spared : new.level ≡ true → IsSpared bytes rec.access

-- what is tested of an instruction that is to be made in step
pub record IsReadyFor (i : Insn) (c : UseShadow) : Type 0 where
  pub level : c.level ≡ true
  pub common : IsCommon i
  pub excm : (core_state c).control.ps.excm ≡ false
  pub vectors : special_of (core_state c).control number.vecbase ≡ c.vecbase
  pub outside : is_in_vectors c.vecbase (core_state c).control.pc ≡ false
  pub first : AgreesAt c.seen (core_state c) (reads i).0
  pub second : AgreesAt c.seen (core_state c) (reads i).1
  pub special : IsNoEpc1 (special_reads i).0
  pub other : IsNoEpc1 (special_reads i).1
  pub first_known : KnownAt c.masks (reads i).0
  pub second_known : KnownAt c.masks (reads i).1
  pub operand : IsOperand (special_reads i).0

-- ---- what is judged of it

-- each bit is known of what is written
abbrev pub masks_after_write : Option RegWrite → List ℕ → List ℕ
masks_after_write None masks = masks
masks_after_write (Some w) masks = slice_set masks w.reg all_bits

-- in step: no breach, and nothing that is not known
pub record IsPassedOn (old new : UseShadow) (m n : Bytes) (rec : StepRecord) : Type 0 where
  pub insn : rec.kind ≡ kind.Insn
  pub sp : is_sp rec.write ≡ false
  pub woe : (core_state old).control.ps.woe ≡ true
  pub vectors : special_of (core_state old).control number.vecbase ≡ old.vecbase
  pub word : IsProperWrite IsWord rec.write
  pub marks : n.marks.items ≡ m.marks.items
  pub stored : AreMasks n.masks (stored_over m.marks.items all_bits rec.access (mask_at m.masks))
  pub new_is : new ≡ record old {
    seen = seen_after_write rec.write old.seen;
    masks = masks_after_write rec.write old.masks;
    side = record old.side { steps = old.side.steps + 1 };
  }

abbrev pub IsPassed :
    UseShadow → UseShadow → Bytes → Bytes → StepRecord → Result Unit End → Type 0
IsPassed old new m n rec (Ok u) = IsPassedOn old new m n rec
IsPassed old new m n rec (Err Lost) = Unit {0}
IsPassed old new m n rec (Err end) = ⊥

-- the breach that a record shows is told
abbrev pub IsFirstIn :
    (ℕ → ℕ) → Side → Side → Bytes → (ℕ → Bool) → (ℕ → ℕ) → StepRecord → Option FirstUse → Type 0
IsFirstIn code old new bytes others masks rec None = ⊥
IsFirstIn code old new bytes others masks rec (Some first) =
    (first.rec ≡ rec)
    × (first.lacks ≡ lacks_before code rec (standing_of old).state)
    × IsUseSeen old new bytes others masks
    (use_seen code old.uses.bounds (standing_of old) others masks rec)
    (Err (stopped.Breaks first.breach))

-- the answer is what the definition sees in the record
abbrev pub IsSawn :
    (ℕ → ℕ) → Side → Side → Bytes → (ℕ → Bool) → (ℕ → ℕ) → StepRecord → Option FirstUse
    → Result Unit End → Type 0
IsSawn code old new bytes others masks rec first (Ok u) =
    IsUseSeen old new bytes others masks
    (use_seen code old.uses.bounds (standing_of old) others masks rec) (Ok u)
IsSawn code old new bytes others masks rec first (Err Breaks) =
    IsFirstIn code old new bytes others masks rec first
IsSawn code old new bytes others masks rec first (Err (NoMemory error)) = Unit {0}
IsSawn code old new bytes others masks rec first (Err end) = ⊥

-- and of a core
abbrev pub IsSeenBy :
    (ℕ → ℕ) → UseShadow → UseShadow → Bytes → (ℕ → Bool) → (ℕ → ℕ) → StepRecord → Option FirstUse
    → Result Unit End → Type 0
IsSeenBy code old new bytes others masks rec first (Ok u) =
    IsSawn code (shown old) (shown new) bytes others masks rec first (Ok u) × IsCore new
IsSeenBy code old new bytes others masks rec first (Err Breaks) =
    IsSawn code (shown old) (shown new) bytes others masks rec first (Err Breaks)
IsSeenBy code old new bytes others masks rec first (Err (NoMemory error)) = Unit {0}
IsSeenBy code old new bytes others masks rec first (Err end) = ⊥

-- and of the turn, if there is one
abbrev pub IsBrokenBy :
    (ℕ → ℕ) → UseShadow → UseShadow → Bytes → (ℕ → Bool) → (ℕ → ℕ) → Option FirstUse → Type 0
IsBrokenBy code old new bytes others masks None = ⊥
IsBrokenBy code old new bytes others masks (Some first) =
    Turns code (shown old) (shown new) bytes others masks (records_left code old)
    (records_left code new)
    (Err (Shows first))

abbrev pub IsTurned :
    (ℕ → ℕ) → UseShadow → UseShadow → Bytes → (ℕ → Bool) → (ℕ → ℕ) → Option FirstUse
    → Result Unit End → Type 0
IsTurned code old new bytes others masks first (Ok u) =
    Turns code (shown old) (shown new) bytes others masks (records_left code old)
    (records_left code new)
    (Ok u)
    × IsCore new
IsTurned code old new bytes others masks first (Err NoTurn) =
    Turns code (shown old) (shown new) bytes others masks (records_left code old)
    (records_left code new)
    (Err NoRecord)
IsTurned code old new bytes others masks first (Err Breaks) =
    IsBrokenBy code old new bytes others masks first
IsTurned code old new bytes others masks first (Err (NoMemory error)) = Unit {0}
IsTurned code old new bytes others masks first (Err Lost) = old.may_step ≡ true

-- ---- a core as it opens
pub record IsOpenedCore
    (d : Discipline) (image : Image) (r : Run) (core : ℕ) (stepping : Bool) (c : UseShadow) : Type 0
  where
    pub side : c.side ≡ record {
      core = core;
      hi = (stack_of core r.options).hi;
      uses = opened_use d core (entry_of core image r.options) r.options;
      phase = Outside;
      steps = 0;
      carried = 0;
    }
    pub state : core_state c ≡ opening_at core (entry_of core image r.options) r.options
    pub left : c.left ≡ turns_of core r.options
    pub replies : c.replies ≡ replies_of core r.history
    pub level : c.level ≡ false
    pub may_step : c.may_step ≡ stepping
    pub vectors : c.vecbase ≡ r.options.vecbase

-- ---- both cores

-- what the walk over records would be
abbrev pub shown_walk : UseShadowWalk → Walk
shown_walk w = record {
  code = w.code;
  side0 = shown w.side0;
  side1 = shown w.side1;
  bytes = w.bytes;
}

pub record AreCores (w : UseShadowWalk) : Type 0 where
  pub zero : IsCore w.side0
  pub one : IsCore w.side1

pub record KnowsBoth (w : UseShadowWalk) (b0 b1 : Bounds) (k : UseKnown) : Type 0 where
  pub cores : AreCores w
  pub knows : Knows (shown_walk w) b0 b1 k

-- the walk judges each turn as a whole
pub record NeverSteps (w : UseShadowWalk) : Type 0 where
  pub zero : w.side0.may_step ≡ false
  pub one : w.side1.may_step ≡ false

-- what a turn of a core comes to
abbrev pub IsBrokenWalk :
    (ℕ → ℕ) → Bounds → Bounds → ℕ → UseKnown → UseShadowWalk → UseShadowWalk → Option FirstUse
    → Type 0
IsBrokenWalk code b0 b1 core k old new None = ⊥
IsBrokenWalk code b0 b1 core k old new (Some first) =
    walks.IsTurned code b0 b1 core k (records_left code old.side0) (records_left code old.side1)
    (shown_walk new)
    (records_left code new.side0)
    (records_left code new.side1)
    (Err (Shows first))

abbrev pub IsWalked :
    (ℕ → ℕ) → Bounds → Bounds → ℕ → UseKnown → UseShadowWalk → UseShadowWalk → Result Unit End
    → Type 0
IsWalked code b0 b1 core k old new (Ok u) =
    walks.IsTurned code b0 b1 core k (records_left code old.side0) (records_left code old.side1)
    (shown_walk new)
    (records_left code new.side0)
    (records_left code new.side1)
    (Ok u)
    × AreCores new
IsWalked code b0 b1 core k old new (Err NoTurn) =
    walks.IsTurned code b0 b1 core k (records_left code old.side0) (records_left code old.side1)
    (shown_walk new)
    (records_left code new.side0)
    (records_left code new.side1)
    (Err NoRecord)
IsWalked code b0 b1 core k old new (Err Breaks) = IsBrokenWalk code b0 b1 core k old new new.first
IsWalked code b0 b1 core k old new (Err (NoMemory error)) = Unit {0}
IsWalked code b0 b1 core k old new (Err Lost) = NeverSteps old → ⊥

-- over the records that are left, in this order
abbrev pub judged_from :
    (ℕ → ℕ) → Bounds → Bounds → List ℕ → UseKnown → UseShadowWalk → UseJudgement
judged_from code b0 b1 cores k w =
    use_judgement code b0 b1 cores (records_left code w.side0) (records_left code w.side1) k

-- what is found where the walk ends so, which began as `old`
abbrev pub IsShownIn :
    (ℕ → ℕ) → UseJudgement → UseKnown → UseShadowWalk → Option FirstUse → Type 0
IsShownIn code j k old None = ⊥
IsShownIn code j k old (Some first) =
    IsShown code j k (records_left code old.side0) (records_left code old.side1) first

abbrev pub IsFound :
    (ℕ → ℕ) → UseJudgement → UseKnown → UseShadowWalk → UseShadowWalk → Result Unit End → Type 0
IsFound code j k old new (Ok u) = IsWhole j (shown new.side0).carried (shown new.side1).carried
IsFound code j k old new (Err NoTurn) =
    IsWhole j (shown new.side0).carried (shown new.side1).carried
IsFound code j k old new (Err Breaks) = IsShownIn code j k old new.first
IsFound code j k old new (Err (NoMemory error)) = Unit {0}
IsFound code j k old new (Err Lost) = NeverSteps old → ⊥

abbrev pub IsFoundIn :
    (ℕ → ℕ) → UseJudgement → UseKnown → UseShadowWalk → Option Uses → Type 0
IsFoundIn code j k old None = NeverSteps old → ⊥
IsFoundIn code j k old (Some uses) =
    IsTold code j k (records_left code old.side0) (records_left code old.side1) uses

-- so many turns are walked
pub record HasReached
    (code : ℕ → ℕ) (b0 b1 : Bounds) (k : UseKnown) (cores : List ℕ) (old w : UseShadowWalk)
    (turns : ℕ) : Type 0 where
  pub cores_are : AreCores w
  pub never : NeverSteps old → NeverSteps w
  pub reaches : Reaches code b0 b1 k cores (records_left code old.side0)
      (records_left code old.side1) (shown_walk w) turns (records_left code w.side0)
      (records_left code w.side1)

-- both cores of a run of an image as it opens
pub record IsOpenedWalk
    (d : Discipline) (image : Image) (r : Run) (may_step : Bool) (w : UseShadowWalk) : Type 0
  where
    pub cores : AreCores w
    pub never : may_step ≡ false → NeverSteps w
    pub opened : walks.IsOpened d (shown_walk w) image.segments image.entry r.options
    pub records0 : records_left (code_of image) w.side0 ≡ (records_of 0 image r).records
    pub records1 : records_left (code_of image) w.side1 ≡ (records_of 1 image r).records

-- what is said of the run by a walk over its turns, where the handlers pass the check: nothing only
-- if the walk may put a core in step
abbrev pub IsUsesOver : Discipline → Image → Run → Bool → Option Uses → Type 0
IsUsesOver d image r may_step None = may_step ≡ true
IsUsesOver d image r may_step (Some uses) = IsUsesOf d true (course_of image r) uses
