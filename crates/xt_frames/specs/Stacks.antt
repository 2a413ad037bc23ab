-- The chain of stack pointers of a core's frames, which calls and returns keep, and that save
-- areas are apart ('profile').
--
-- Note: new stack pointers are taken modulo 2^32 and then compared as whole numbers.
use Rattle.std.specs.Prelude.{◌≡◌, ℕ, nat_lt, Bool, ◌+◌, ◌*◌, ◌%◌, ◌^◌, ◌<◌, ◌≤◌, true, false, ◌==◌}
use Rattle.std.specs.Prelude.{Option, Some, None, List, [], ◌∷◌, slice_index_or, slice_set, length}
use Rattle.std.specs.Prelude.{take}
use Rattle.xt_isa.specs.declared.Insn.{Insn}
use Rattle.xt_isa.specs.Ranges.{in_range}
use Rattle.xt_special.specs.Interrupts.{pending_of}
use Rattle.xt_trace.specs.declared.record.StepRecord.{StepRecord}
use Rattle.xt_map.specs.Fetching.{Fetches, fetch_at}
use Rattle.xt_rows.specs.Numbers.{minus}
use Rattle.xt_frames.specs.FrameStep.{step_with_inputs}
use Rattle.xt_frames.specs.Frames.{Frame, FrameState, value_or_zero, seen_after_call}
use Rattle.xt_frames.specs.Frames.{seen_after_return}
use Rattle.xt_frames.specs.SaveAreas.{Area, areas, sp_of, before}
use Rattle.xt_frames.specs.Breaches.{Bounds, laid_breach, small_frame, outside}

-- a call moves by 1, 2 or 3 windows, and four registers are kept for each
pub record IsFrame (f : Frame) : Type 0 where
  pub moves : 0 < f.by
  pub within : f.by ≤ 3
  pub keeps : length f.kept ≡ 4 * f.by

abbrev pub AreFrames : List Frame → Type 0
AreFrames [] = Unit {0}
AreFrames (f ∷ fs) = IsFrame f × AreFrames fs

-- the frame with stack pointer sp, which f called, and the callers of f
pub record Link (lo hi sp : ℕ) (f : Frame) (fs : List Frame) : Type 0 where
  pub aligned : sp % 16 ≡ 0
  pub low : lo + 16 ≤ sp
  pub under : sp + 16 ≤ sp_of f
  pub large : sp_of f + 16 * f.by ≤ before hi fs
  pub kept : slice_index_or f.kept 1 None ≡ Some (sp_of f)

-- the frame with stack pointer sp, and its callers
abbrev pub Chain : ℕ → ℕ → ℕ → List Frame → Type 0
Chain lo hi sp [] = sp + 64 ≡ hi
Chain lo hi sp (f ∷ fs) = Link lo hi sp f fs × Chain lo hi (sp_of f) fs

pub record IsRange (lo hi : ℕ) : Type 0 where
  pub low : lo % 16 ≡ 0
  pub high : hi % 16 ≡ 0
  pub room : lo + 256 ≤ hi
  pub top : hi ≤ 2 ^ 30

-- what the frame machine alone keeps
pub record Stack (lo hi : ℕ) (seen : List (Option ℕ)) (frames : List Frame) : Type 0 where
  pub range : IsRange lo hi
  pub wide : length seen ≡ 16
  pub shaped : AreFrames frames
  pub sp : slice_index_or seen 1 None ≡ Some (value_or_zero seen 1)
  pub chain : Chain lo hi (value_or_zero seen 1) frames

abbrev pub EntersStack : Type 0
EntersStack =
    (lo hi : ℕ) (seen : List (Option ℕ)) (frames : List Frame) (n size : ℕ)
    → Stack lo hi seen frames → 0 < n → n ≤ 3 → size < 2 ^ 16
    → small_frame hi (value_or_zero seen 1) size n frames ≡ false
    → outside lo hi (minus (value_or_zero seen 1) size) ≡ false
    → (minus (value_or_zero seen 1) size % 16 == 0) ≡ true
    → Stack lo hi (slice_set (seen_after_call seen n) 1 (Some (minus (value_or_zero seen 1) size)))
    (record { by = n; kept = take (4 * n) seen } ∷ frames)

abbrev pub LeavesStack : Type 0
LeavesStack =
    (lo hi : ℕ) (seen : List (Option ℕ)) (f : Frame) (frames : List Frame)
    → Stack lo hi seen (f ∷ frames) → Stack lo hi (seen_after_return f.kept seen f.by) frames

-- ---- save areas
-- they rise from x on, and share no byte
abbrev pub Rise : ℕ → List Area → Type 0
Rise x [] = Unit {0}
Rise x (a ∷ more) = (x ≤ a.from) × Rise (a.from + a.size) more

abbrev pub AreasRise : Type 0
AreasRise =
    (lo hi : ℕ) (seen : List (Option ℕ)) (frames : List Frame) → Stack lo hi seen frames
    → Rise lo (areas hi (value_or_zero seen 1) 1 frames)

-- a step that shows no breach keeps the chain
abbrev pub KeepsStack : Type 0
KeepsStack =
    (code : ℕ → ℕ) (b : Bounds) (fresh : Bool) (live stale : ℕ → Bool) (rec : StepRecord)
    (g : FrameState)
    → Stack b.range.lo b.range.hi g.seen g.frames → g.control.ps.callinc < 4
    → ((i : Insn) (len : ℕ) → nat_lt 0 (pending_of g.control) ≡ false → g.control.waits ≡ false
    → fetch_at code g.control.pc ≡ Fetches i len → in_range i ≡ true)
    → laid_breach b fresh code live stale rec g ≡ None
    → Stack b.range.lo b.range.hi (step_with_inputs code rec.reply g).after.seen
    (step_with_inputs code rec.reply g).after.frames

-- What a step does to the frames: it leaves them and a1 as they are; or it keeps one frame more,
-- whose a1 is the old a1; or one less, and a1 is the one kept for it.
pub data Moves (g u : FrameState) : Type 0 where
  Stays : u.frames ≡ g.frames → value_or_zero u.seen 1 ≡ value_or_zero g.seen 1 → Moves g u
  Calls : (f : Frame) → u.frames ≡ f ∷ g.frames → sp_of f ≡ value_or_zero g.seen 1 → Moves g u
  Leaves : (f : Frame) → g.frames ≡ f ∷ u.frames → value_or_zero u.seen 1 ≡ sp_of f → Moves g u

-- a step that shows no breach moves by one frame at most
abbrev pub MovesFrames : Type 0
MovesFrames =
    (code : ℕ → ℕ) (b : Bounds) (fresh : Bool) (live stale : ℕ → Bool) (rec : StepRecord)
    (g : FrameState)
    → Stack b.range.lo b.range.hi g.seen g.frames → g.control.ps.callinc < 4
    → ((i : Insn) (len : ℕ) → nat_lt 0 (pending_of g.control) ≡ false → g.control.waits ≡ false
    → fetch_at code g.control.pc ≡ Fetches i len → in_range i ≡ true)
    → laid_breach b fresh code live stale rec g ≡ None
    → Moves g (step_with_inputs code rec.reply g).after
