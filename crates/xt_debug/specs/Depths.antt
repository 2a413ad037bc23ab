-- What is known of a core's frames at a position of a run ('profile').
use Rattle.std.specs.Prelude.{ℕ, zero, suc, Option, length}
use Rattle.std.specs.Option.{option_map}
use Rattle.xt_trace.specs.declared.run.Run.{Run}
use Rattle.xt_image.specs.declared.image.Image.{Image}
use Rattle.xt_handlers.specs.CheckAnswers.{handlers_of}
use Rattle.xt_core.specs.Runs.{code_of, records_of}
use Rattle.xt_frames.specs.Frames.{FrameState}
use Rattle.xt_frames.specs.Verdict.{Known}
use Rattle.xt_discipline.specs.Before.{judgement_before, known_before}
use Rattle.xt_discipline.specs.Verdicts.{are_yes}

-- what the judge knows after the judged steps before a position; none where the handlers do not pass
-- the check, or a breach comes before the position
abbrev pub known_at : Image → Run → ℕ → Option Known
known_at image r p =
    known_before
    (are_yes (handlers_of (code_of image) r.options.vecbase))
    (judgement_before image r p (records_of 0 image r).records (records_of 1 image r).records)

-- the frame state of a core
abbrev pub frame_of : ℕ → Known → FrameState
frame_of zero k = k.standing0.frame
frame_of (suc core) k = k.standing1.frame

unfoldable pub frame_at : Image → Run → ℕ → ℕ → Option FrameState
frame_at image r core p = option_map (frame_of core) (known_at image r p)

-- how many frames of callers a core has
abbrev pub depth_at : Image → Run → ℕ → ℕ → Option ℕ
depth_at image r core p = option_map (λ f. length f.frames) (frame_at image r core p)
