-- What is judged of a run of an image ('profile').
--
-- Note: the verdict is Unchecked where one handler is not Yes; otherwise it is given on shared
-- stacks too.
use Rattle.std.specs.Prelude.{Bool, true, false, ◌&&◌, List}
use Rattle.xt_map.specs.Memory.{constant_byte}
use Rattle.xt_image.specs.declared.image.Image.{Image}
use Rattle.xt_trace.specs.declared.options.Options.{Options}
use Rattle.xt_trace.specs.declared.record.StepRecord.{StepRecord}
use Rattle.xt_trace.specs.declared.run.Run.{Run}
use Rattle.xt_handlers.specs.declared.stretch.HandlerVerdict.{HandlerVerdict}
use Rattle.xt_handlers.specs.declared.stretch.HandlerVerdict.TheVariants.{Yes}
use Rattle.xt_handlers.specs.declared.Handlers.{Handlers}
use Rattle.xt_handlers.specs.CheckAnswers.{handlers_of}
use Rattle.xt_core.specs.Runs.{code_of, records_of}
use Rattle.xt_frames.specs.FirstBreach.{Course, by_core, turns}
use Rattle.xt_frames.specs.declared.kinds.Judged.{Judged}
use Rattle.xt_frames.specs.Verdict.{Judgement, judgement, opening_known, verdict}
use Rattle.xt_frames.specs.Walked.{Walked, opening_walked}
use Rattle.xt_discipline.specs.Schedules.{schedule_in}

abbrev pub is_yes : HandlerVerdict → Bool
is_yes Yes = true
is_yes _ = false

-- the six window handlers pass the check
abbrev pub are_yes : Handlers → Bool
are_yes h =
    is_yes h.of4
    && (is_yes h.uf4
    && (is_yes h.of8 && (is_yes h.uf8 && (is_yes h.of12 && is_yes h.uf12))))

-- both cores of the machine with unbounded call frames as a run opens: core 0 at the image's entry,
-- core 1 at its own
abbrev pub opened0 : Image → Options → Walked
opened0 image o = opening_walked 0 image.entry o

abbrev pub opened1 : Options → Walked
opened1 o = opening_walked 1 o.entry1 o

-- the walk of the judge over these records of both cores, in the order of the run's schedule
abbrev pub judgement_in : Image → Run → List StepRecord → List StepRecord → Judgement
judgement_in image r xs ys =
    judgement
    (constant_byte image.segments)
    (opened0 image r.options).bounds
    (opened1 r.options).bounds
    (schedule_in r)
    xs
    ys
    (opening_known (opened0 image r.options).state (opened1 r.options).state)

-- the run to be judged: these records of both cores, in the order of the run's schedule, with how
-- both cores open
abbrev pub course_in : Image → Run → List StepRecord → List StepRecord → Course
course_in image r xs ys = record {
  code = constant_byte image.segments;
  bounds = by_core (opened0 image r.options).bounds (opened1 r.options).bounds;
  opening = by_core (opened0 image r.options).state (opened1 r.options).state;
  turns = turns (schedule_in r) xs ys;
}

-- ---- a run of an image, with the records that its history gives

-- the six window handlers pass the check: those of the vectors from the VECBASE of these options on
abbrev pub are_checked : Image → Options → Bool
are_checked image o = are_yes (handlers_of (code_of image) o.vecbase)

abbrev pub course_of : Image → Run → Course
course_of image r = course_in image r (records_of 0 image r).records (records_of 1 image r).records

abbrev pub judgement_of : Image → Run → Judgement
judgement_of image r =
    judgement_in image r (records_of 0 image r).records (records_of 1 image r).records

-- What is judged where the handlers have these answers: nothing if one of them is `no`; else the
-- verdict is the breach at which the walk ends, or that there is none.
abbrev pub judged_in : Handlers → Image → Run → Judged
judged_in handlers image r = verdict (are_yes handlers) (judgement_of image r)

-- and where they have those of the vectors from the run's own VECBASE on
abbrev pub judged_of : Image → Run → Judged
judged_of image r = judged_in (handlers_of (code_of image) r.options.vecbase) image r
