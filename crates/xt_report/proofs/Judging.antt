-- What the judge walks of a run of an image is what the headline judges of it.
use Rattle.std.proofs.Common.{◌≡◌, ℕ, List, length, ◌∙◌, ap}
use Rattle.xt_trace.specs.declared.run.Run.{Run}
use Rattle.xt_image.specs.declared.image.Image.{Image}
use Rattle.xt_trace.specs.Schedule.{cores_of, places_from, schedule}
use Rattle.xt_trace.specs.Short.{short_schedule}
use Rattle.xt_core.specs.Runs.{code_of, records_of, IsRunOf}
use Rattle.xt_frames.specs.Verdict.{Judgement, judgement, opening_known}
use Rattle.xt_discipline.specs.Schedules.{schedule_in}
use Rattle.xt_discipline.specs.Verdicts.{judgement_of, opened0, opened1}
use Rattle.xt_simulation.specs.Headline as headline
use Rattle.xt_report.specs.Framed.{short_of}

-- the schedule that is kept is that of the records
pub schedule_is : (image : Image) (r : Run) → IsRunOf image r → schedule_in r ≡ short_schedule (short_of image r)
schedule_is image r h =
    let cs = cores_of r.history in
    ap (λ (ps : List ℕ). schedule cs ps r.trace0.count r.trace1.places r.trace1.count) h.trace0.places_are
    ∙ (ap (λ (n : ℕ). schedule cs (places_from 0 (records_of 0 image r).records) n r.trace1.places r.trace1.count) h.trace0.count_is
    ∙ (ap (λ (qs : List ℕ). schedule cs (places_from 0 (records_of 0 image r).records) (length (records_of 0 image r).records) qs r.trace1.count) h.trace1.places_are
    ∙ ap (λ (m : ℕ). schedule cs (places_from 0 (records_of 0 image r).records) (length (records_of 0 image r).records) (places_from 0 (records_of 1 image r).records) m) h.trace1.count_is))

pub judgement_is : (image : Image) (r : Run) → IsRunOf image r → judgement_of image r ≡ headline.judgement_of image.segments image.entry r.options (short_of image r)
judgement_is image r h =
    let o = r.options in
    let J : List ℕ → Judgement = λ s. judgement (code_of image) (opened0 image o).bounds (opened1 o).bounds s (records_of 0 image r).records (records_of 1 image r).records (opening_known (opened0 image o).state (opened1 o).state) in
    ap J (schedule_is image r h)
