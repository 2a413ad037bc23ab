-- Carries a proof; nothing that a reader must believe.
-- How the program keeps a state of the machine of uses, and what its functions answer.
use Rattle.std.specs.Prelude.{◌≡◌, ℕ, suc, ◌+◌, ◌*◌, ◌<◌, Bool, true, ◌&&◌, ◌||◌, ◌==◌, nat_le, Option}
use Rattle.std.specs.Prelude.{Some, None, if◌then◌else◌, Result, Ok, Err, List, [], ◌∷◌, map}
use Rattle.std.specs.Prelude.{reverse, slice_set, take}
use Rattle.xt_isa.specs.declared.Insn.{Insn}
use Rattle.xt_isa.specs.declared.Insn.TheVariants as insn
use Rattle.xt_isa.specs.declared.shift.Shift.TheVariants as shift
use Rattle.xt_codec.specs.declared.fetch.Fetch.TheVariants as fetch
use Rattle.xt_frames.specs.declared.view.NextEvent.{NextEvent}
use Rattle.xt_frames.specs.declared.view.NextEvent.TheVariants as plan
use Rattle.xt_trace.specs.declared.options.Options.{Options}
use Rattle.xt_trace.specs.declared.record.RegWrite.{RegWrite}
use Rattle.xt_trace.specs.declared.record.StepRecord.{StepRecord}
use Rattle.xt_map.specs.Fetching.{fetch_at}
use Rattle.xt_frames.specs.declared.kinds.Breach.{Breach}
use Rattle.xt_frames.specs.declared.kinds.BreachKind.{BreachKind}
use Rattle.xt_frames.specs.declared.breach.Case.{Case}
use Rattle.xt_frames.specs.declared.holes.UndefinedParts.{UndefinedParts}
use Rattle.xt_frames.specs.declared.holes.Nested.{Nested}
use Rattle.xt_frames.specs.declared.view.Call.{Call}
use Rattle.xt_frames.specs.declared.view.Call.TheVariants.{Stays}
use Rattle.xt_frames.specs.Frames.{Frame, FrameState, value_or_zero, opening_frame}
use Rattle.xt_frames.specs.FrameStep.{FrameTurn, with_inputs}
use Rattle.xt_frames.specs.Nesting.{current, nested_fetched, unset_after}
use Rattle.xt_frames.specs.SaveAreas.{before, sp_of}
use Rattle.xt_frames.specs.Breaches.{Bounds, fresh_after, inputs_of, touches_save_area}
use Rattle.xt_frames.specs.KeptFrameState.{IsNewest, Upper, frames_after, state_at, turn_as}
use Rattle.xt_frames.specs.Stacks.{Stack}
use Rattle.xt_frames.specs.Walked.{bounds_of, stack_of}
use Rattle.xt_uses.specs.declared.masks.KeptMasks.{KeptMasks}
use Rattle.xt_uses.specs.declared.masks.Keep.{Keep}
use Rattle.xt_uses.specs.declared.masks.Keep.TheVariants as keep
use Rattle.xt_uses.specs.declared.masks.TopMasks.{TopMasks}
use Rattle.xt_uses.specs.declared.testing.Touched.{Touched}
use Rattle.xt_uses.specs.declared.told.Used.{Used}
use Rattle.xt_uses.specs.declared.told.JudgeError.{JudgeError}
use Rattle.xt_uses.specs.declared.told.JudgeError.TheVariants.{Breaks, NoMemory}
use Rattle.xt_uses.specs.declared.stepping.Done.{Done}
use Rattle.xt_uses.specs.declared.stepping.Made.{Made}
use Rattle.xt_uses.specs.declared.stepping.Top.{Top}
use Rattle.xt_uses.specs.Disciplines.{Discipline}
use Rattle.xt_uses.specs.Words.{all_bits}
use Rattle.xt_uses.specs.UseState.{ValidityBits, UseState, opening_use, special_mask}
use Rattle.xt_uses.specs.UseStep.{carries, is_left, reply_mask, use_step}
use Rattle.xt_uses.specs.UseBreaches.{swaps_unknown, use_breach}

-- ---- the masks of the frames that have called are kept with their sizes, the oldest first

abbrev pub kept_mask : KeptMasks → List ℕ
kept_mask k = take (4 * k.by) k.masks

unfoldable pub kept_of : List KeptMasks → List (List ℕ)
kept_of kept = reverse (map kept_mask kept)

abbrev pub masks_at : List (List ℕ) → TopMasks → ValidityBits
masks_at kept m = record {
  discipline = m.discipline;
  seen = m.seen;
  kept = kept;
  special = m.special;
  threadptr = m.threadptr;
  inner = m.inner;
}

abbrev pub newest_masks : List (List ℕ) → Option (List ℕ)
newest_masks [] = None
newest_masks (k ∷ ks) = Some k

abbrev pub masks_where : Option KeptMasks → Option (List ℕ)
masks_where None = None
masks_where (Some k) = Some (kept_mask k)

abbrev pub IsNewestMasks : Option KeptMasks → List (List ℕ) → Type 0
IsNewestMasks newest kept = newest_masks kept ≡ masks_where newest

-- they are those of 1, 2 or 3 windows
abbrev pub AreFew : Option KeptMasks → Type 0
AreFew None = Unit {0}
AreFew (Some k) = k.by < 4

abbrev pub without_first : List (List ℕ) → List (List ℕ)
without_first [] = []
without_first (k ∷ ks) = ks

-- after a call, a return or another step
abbrev pub kept_after : Keep → List (List ℕ) → List (List ℕ)
kept_after keep.Stays kept = kept
kept_after (keep.Keeps k) kept = kept_mask k ∷ kept
kept_after keep.Restores kept = without_first kept

-- a call keeps the masks of 1, 2 or 3 windows
abbrev pub KeepsFew : Keep → Type 0
KeepsFew keep.Stays = Unit {0}
KeepsFew (keep.Keeps k) = k.by < 4
KeepsFew keep.Restores = Unit {0}

-- the mask of the special register, where there is one
abbrev pub mask_of : ValidityBits → Option ℕ → ℕ
mask_of m None = all_bits
mask_of m (Some n) = special_mask m n

-- ---- what a return leaves, where the registers before number n have been gone over

abbrev pub forgot_to : {A : Type 0} → A → ℕ → ℕ → ℕ → List A → List A
forgot_to none first n i [] = []
forgot_to none first n i (x ∷ xs) =
    (if is_left first i || nat_le n i then x else none) ∷ forgot_to none first n (suc i) xs

-- ---- a state without its lists of frames

-- nothing is known of a visible register
abbrev pub without_register : ℕ → Top → Top
without_register i t = record t {
  view = record t.view { seen = slice_set t.view.seen i None };
  masks = record t.masks { seen = slice_set t.masks.seen i 0 };
}

abbrev pub use_at : List Frame → List (List ℕ) → UndefinedParts → Upper → TopMasks → UseState
use_at frames kept h v m = record { frame = state_at frames h v; masks = masks_at kept m }

-- ---- a step

-- the registers of the MOVSP that a planned step executes, and its length
unfoldable pub plan_movsp : NextEvent → Option (ℕ × ℕ × ℕ)
plan_movsp (plan.Fetched (fetch.Insn (insn.Shift (shift.Movsp t s)) len)) = Some (t, s, len)
plan_movsp _ = None

-- what is left of a step that was made so: in a nested interrupt the frames are as they were
abbrev pub settled_in :
    Option Nested → (ℕ → ℕ) → ℕ → Made → List Frame → UndefinedParts → Upper → FrameTurn
settled_in None code value m frames h v =
    let u = turn_as m.step frames h m.after in
    record u {
      after = record u.after {
        unset = unset_after u.kind (fetch_at code m.before.control.pc) h.unset;
      };
    }
settled_in (Some x) code value m frames h v =
    nested_fetched
    (fetch_at code m.before.control.pc)
    value
    x
    (state_at frames h v)
    (turn_as m.step frames h m.after)

abbrev pub call_in : Option Nested → Call → Call
call_in None call = call
call_in (Some x) call = Stays

-- the register that is written
abbrev pub register_of : Option RegWrite → Option ℕ
register_of None = None
register_of (Some w) = Some w.reg

-- the write that is cut, where an instruction was executed
abbrev pub write_where : Option Insn → Option RegWrite → Option RegWrite
write_where None write = None
write_where (Some i) write = write

-- what the record touches, by these live bytes and these masks of bytes
pub record IsTouched (t : Touched) (rec : StepRecord) (live : ℕ → Bool) (bytes : ℕ → ℕ) : Type 0
  where
    pub saves : touches_save_area live rec.access ≡ t.saves
    pub swaps : swaps_unknown bytes rec.access ≡ t.swaps
    pub reply : reply_mask bytes rec.access ≡ t.reply

-- what a step is tested by
pub record IsUseCase (case : Case) (touched : Touched) (frames : List Frame) : Type 0 where
  pub saves : case.saves ≡ touched.saves
  pub newest : IsNewest case.newest frames
  pub under : case.under ≡ before case.limits.hi frames

-- EPC1 has what was last written, after a judged step
abbrev pub fresh_use :
    Bool → (ℕ → ℕ) → Bool → StepRecord → (ℕ → ℕ) → UseState → Bool
fresh_use fresh code nested rec bytes s =
    let u = use_step code nested rec bytes s in
    fresh_after
    fresh
    u.turn.kind
    (fetch_at code (current s.frame).control.pc)
    (with_inputs (inputs_of rec) (current s.frame)).control.ps
    (current u.after.frame).control.ps

-- what is left where the step is taken: `new` has all but the lists of frames, which it takes
pub record IsTaken
    (fresh : Bool) (code : ℕ → ℕ) (nested : Bool) (rec : StepRecord) (bytes : ℕ → ℕ) (s : UseState)
    (done : Done) (new : List Frame → List (List ℕ) → UseState) : Type 0 where
  pub state :
      new (frames_after done.call s.frame.frames) (kept_after done.keep s.masks.kept)
      ≡ (use_step code nested rec bytes s).after
  pub epc1 : done.fresh ≡ fresh_use fresh code nested rec bytes s
  pub stores : done.stored ≡ (use_step code nested rec bytes s).stored
  pub unknown : done.carries ≡ carries code rec s (use_step code nested rec bytes s)

-- the answer where a step of s shows this breach, and what it leaves
abbrev pub IsUseDone :
    Option BreachKind → Bool → (ℕ → ℕ) → Bool → StepRecord → (ℕ → ℕ) → UseState
    → Result Done BreachKind → (List Frame → List (List ℕ) → UseState) → Type 0
IsUseDone found fresh code nested rec bytes s (Ok done) new =
    (found ≡ None) × IsTaken fresh code nested rec bytes s done new
IsUseDone found fresh code nested rec bytes s (Err kind) new =
    (found ≡ Some kind) × (new s.frame.frames s.masks.kept ≡ s)

-- What a step does to the frames: it leaves them as they are, though a1 may be another by MOVSP; or
-- it keeps one frame more, whose a1 is the old a1; or one less.
pub data UseMoves (g u : FrameState) : Type 0 where
  Stands : u.frames ≡ g.frames → UseMoves g u
  Calls : (f : Frame) → u.frames ≡ f ∷ g.frames → sp_of f ≡ value_or_zero g.seen 1 → UseMoves g u
  Leaves : (f : Frame) → g.frames ≡ f ∷ u.frames → value_or_zero u.seen 1 ≡ sp_of f → UseMoves g u

-- the frames stay on their stack, and are one more or less at most
abbrev pub IsUseKept : (lo hi : ℕ) → FrameState → Done → (List Frame → FrameState) → Type 0
IsUseKept lo hi f done new =
    let after = new (frames_after done.call f.frames) in
    Stack lo hi after.seen after.frames × UseMoves f after

-- the first breach of a record that is tested by this
abbrev pub use_found_by :
    Case → (ℕ → ℕ) → (ℕ → Bool) → (ℕ → ℕ) → Bool → StepRecord → UseState → Option BreachKind
use_found_by case code live bytes nested rec s =
    use_breach (bounds_of case.limits) case.fresh code live bytes nested rec s

-- ---- a core

-- its number, what it is judged by, its state, whether EPC1 has what was last written, and the
-- number of the record after the last judged one
pub record UseWalked : Type 0 where
  pub core : ℕ
  pub bounds : Bounds
  pub state : UseState
  pub fresh : Bool
  pub next : ℕ

-- EPC1 has what was last written before the record of this number: a gap in the numbers shows that
-- handler steps stood there
abbrev pub fresh_at : UseWalked → ℕ → Bool
fresh_at w index = w.fresh && (w.next == index)

abbrev pub opened_use : Discipline → ℕ → ℕ → Options → UseWalked
opened_use d core pc o = record {
  core = core;
  bounds = record {
    range = record { lo = (stack_of core o).lo; hi = (stack_of core o).hi };
    vecbase = o.vecbase;
  };
  state = opening_use d (opening_frame core pc o.vecbase (stack_of core o).hi);
  fresh = true;
  next = 0;
}

-- a core after a judged record of this number
abbrev pub use_past :
    UseWalked → (ℕ → ℕ) → ℕ → Bool → StepRecord → (ℕ → ℕ) → UseWalked
use_past w code index nested rec bytes =
    record w {
      state = (use_step code nested rec bytes w.state).after;
      fresh = fresh_use (fresh_at w index) code nested rec bytes w.state;
      next = index + 1;
    }

-- what is told of the step
pub record IsUsed
    (code : ℕ → ℕ) (nested : Bool) (rec : StepRecord) (bytes : ℕ → ℕ) (s : UseState) (used : Used)
    : Type 0 where
  pub stores : used.stored ≡ (use_step code nested rec bytes s).stored
  pub unknown : used.carries ≡ carries code rec s (use_step code nested rec bytes s)

-- the answer where a step shows this breach
abbrev pub IsUseBreach : Option BreachKind → UseWalked → ℕ → Breach → Type 0
IsUseBreach found w index b = (found ≡ Some b.kind) × (b.core ≡ w.core) × (b.step ≡ index)

-- and the core that it leaves, about which too little memory says nothing
abbrev pub IsUseJudged :
    Option BreachKind → UseWalked → (ℕ → ℕ) → ℕ → Bool → StepRecord → (ℕ → ℕ)
    → Result Used JudgeError → UseWalked → Type 0
IsUseJudged found w code index nested rec bytes (Ok used) new =
    (found ≡ None) × (new ≡ use_past w code index nested rec bytes)
    × IsUsed code nested rec bytes w.state used
IsUseJudged found w code index nested rec bytes (Err (Breaks b)) new =
    IsUseBreach found w index b × (new ≡ w)
IsUseJudged found w code index nested rec bytes (Err (NoMemory e)) new = Unit {0}

-- the answer of a test without a step
abbrev pub IsUseTested : Option BreachKind → UseWalked → ℕ → Result Unit Breach → Type 0
IsUseTested found w index (Ok u) = found ≡ None
IsUseTested found w index (Err b) = IsUseBreach found w index b
