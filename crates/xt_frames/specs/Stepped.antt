-- Carries a proof; nothing that a reader must believe.
-- What the program's judged step in place leaves.
use Rattle.std.specs.Prelude.{◌≡◌, ℕ, Bool, Option, Some, None, Result, Ok, Err, List}
use Rattle.xt_special.specs.Control.{special_of}
use Rattle.xt_special.specs.Numbers as number
use Rattle.xt_trace.specs.declared.record.StepRecord.{StepRecord}
use Rattle.xt_frames.specs.declared.kinds.BreachKind.{BreachKind}
use Rattle.xt_frames.specs.declared.breach.Case.{Case}
use Rattle.xt_frames.specs.declared.judged.Done.{Done}
use Rattle.xt_frames.specs.declared.view.RecordInputs.{RecordInputs}
use Rattle.xt_frames.specs.Frames.{Frame, FrameState}
use Rattle.xt_frames.specs.Breaches.{breach_of}
use Rattle.xt_frames.specs.Judging.{fresh_on, step_on}
use Rattle.xt_frames.specs.Stacks.{Moves, Stack}
use Rattle.xt_frames.specs.KeptFrameState.{Upper, frames_after}
use Rattle.xt_frames.specs.Walked.{bounds_of}

-- what the inputs of a record are laid over
abbrev pub covered_of : Upper → RecordInputs
covered_of v = record {
  ccount = special_of v.control number.ccount;
  interrupt = special_of v.control number.interrupt;
  owb = v.control.ps.owb;
}

-- The answer where a step of f shows this breach, and what it leaves: `new` has the view and the
-- holes, and takes the frames.
abbrev pub IsDone :
    Option BreachKind → Bool → (ℕ → ℕ) → Bool → StepRecord → FrameState → Result Done BreachKind
    → (List Frame → FrameState) → Type 0
IsDone found fresh code nested rec f (Ok done) new =
    (found ≡ None)
    × (new (frames_after done.call f.frames) ≡ (step_on code nested rec f).after)
    × (done.fresh ≡ fresh_on fresh code nested rec f)
IsDone found fresh code nested rec f (Err kind) new = (found ≡ Some kind) × (new f.frames ≡ f)

-- the first breach of a record that is tested by this
abbrev pub found_by :
    Case → (ℕ → ℕ) → (ℕ → Bool) → (ℕ → Bool) → Bool → StepRecord → FrameState → Option BreachKind
found_by case code live stale nested rec f =
    breach_of (bounds_of case.limits) case.fresh code live stale nested rec f

-- the frames stay on their stack, and are one more or less at most
abbrev pub IsKept : (lo hi : ℕ) → FrameState → Done → (List Frame → FrameState) → Type 0
IsKept lo hi f done new =
    let after = new (frames_after done.call f.frames) in
    Stack lo hi after.seen after.frames × Moves f after
