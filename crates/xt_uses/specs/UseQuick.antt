-- Carries a proof; nothing that a reader must believe.
-- What the program answers of a judged step that shows no breach, stays in its frame, and reads and
-- writes words of which each bit is known.
use Rattle.std.specs.Prelude.{◌≡◌, ℕ, Bool, false, None, List}
use Rattle.xt_isa.specs.declared.Insn.{Insn}
use Rattle.xt_trace.specs.declared.record.StepRecord.{StepRecord}
use Rattle.xt_frames.specs.declared.breach.Limits.{Limits}
use Rattle.xt_frames.specs.declared.view.Call.TheVariants.{Stays}
use Rattle.xt_frames.specs.Frames.{Frame, FrameState, value_or_zero}
use Rattle.xt_frames.specs.Walked.{bounds_of}
use Rattle.xt_uses.specs.declared.masks.Keep.TheVariants as keep
use Rattle.xt_uses.specs.declared.stepping.Done.{Done}
use Rattle.xt_uses.specs.Words.{all_bits}
use Rattle.xt_uses.specs.UseState.{UseState, first_word, second_word, special_operand}
use Rattle.xt_uses.specs.UseBreaches.{use_breach}
use Rattle.xt_uses.specs.UseParts.{IsTaken}

-- each bit of what an instruction reads is known
pub record AreWhole (i : Insn) (s : UseState) (f : FrameState) : Type 0 where
  pub first : (first_word i s f).mask ≡ all_bits
  pub second : (second_word i s f).mask ≡ all_bits
  pub special : (special_operand i s f).mask ≡ all_bits

-- the step leaves the lists of frames as they are, and carries nothing
abbrev pub done_quick : Bool → Done
done_quick fresh =
    record { call = Stays; keep = keep.Stays; fresh = fresh; stored = all_bits; carries = false }

-- what is known of such a step: `new` has all but the lists of frames, which it takes
pub record IsQuickUse
    (limits : Limits) (fresh : Bool) (code : ℕ → ℕ) (live : ℕ → Bool) (rec : StepRecord)
    (bytes : ℕ → ℕ) (s : UseState) (new : List Frame → List (List ℕ) → UseState) : Type 0 where
  pub none : use_breach (bounds_of limits) fresh code live bytes false rec s ≡ None
  pub taken : IsTaken fresh code false rec bytes s (done_quick fresh) new

-- the frames and the stack pointer are as they were
pub record StandsStill (g u : FrameState) : Type 0 where
  pub frames : u.frames ≡ g.frames
  pub sp : value_or_zero u.seen 1 ≡ value_or_zero g.seen 1
