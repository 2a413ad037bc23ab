-- What the judge knows of both cores after the first steps of a run ('profile').
use Rattle.std.specs.Prelude.{ℕ, if◌then◌else◌, Bool, Option, Some, None, List, take}
use Rattle.xt_map.specs.Memory.{constant_byte}
use Rattle.xt_trace.specs.declared.record.StepRecord.{StepRecord}
use Rattle.xt_trace.specs.declared.run.Run.{Run}
use Rattle.xt_image.specs.declared.image.Image.{Image}
use Rattle.xt_frames.specs.declared.kinds.Breach.{Breach}
use Rattle.xt_frames.specs.Verdict.{Judgement, Known, judgement, opening_known}
use Rattle.xt_discipline.specs.Schedules.{schedule_in}
use Rattle.xt_discipline.specs.Verdicts.{opened0, opened1}

-- the walk of the judge over these records, in the order of the first p steps of the run's schedule
abbrev pub judgement_before :
    Image → Run → ℕ → List StepRecord → List StepRecord → Judgement
judgement_before image r p xs ys =
    judgement
    (constant_byte image.segments)
    (opened0 image r.options).bounds
    (opened1 r.options).bounds
    (take p (schedule_in r))
    xs
    ys
    (opening_known (opened0 image r.options).state (opened1 r.options).state)

-- what is known where no breach came
abbrev pub known_on : Known → Option Breach → Option Known
known_on k None = Some k
known_on k (Some breach) = None

abbrev pub known_in : Judgement → Option Known
known_in j = known_on j.known j.breach

-- none where the handlers do not pass the check, or where a breach came
abbrev pub known_before : Bool → Judgement → Option Known
known_before checked j = if checked then known_in j else None
