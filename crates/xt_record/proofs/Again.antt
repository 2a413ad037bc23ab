-- A run of an image is the run with its entries.
use Rattle.std.proofs.Common.{◌≡◌, ℕ, ◌<◌, List, length, get_or, sym, ap, ◌∙◌}
use Rattle.std.specs.Prelude.{All}
use Rattle.std.proofs.lemmas.Option.{slice_get-get_or}
use Rattle.xt_map.specs.declared.access.Entry.{Entry}
use Rattle.xt_map.specs.History.{IsOfCores}
use Rattle.xt_trace.specs.declared.run.Run.{Run}
use Rattle.xt_trace.specs.declared.trace.Stop.{Stop}
use Rattle.xt_trace.specs.declared.trace.Trace.{Trace}
use Rattle.xt_image.specs.declared.image.Image.{Image}
use Rattle.xt_trace.specs.Schedule.{places_from}
use Rattle.xt_trace.specs.Traces.{Traced, stop_of}
use Rattle.xt_exec.specs.State.{State}
use Rattle.xt_core.specs.Runs.{IsRunOf, StandsFor, records_of}
use Rattle.xt_record.specs.declared.walk.Walked.{Walked}
use Rattle.xt_record.specs.Checkpoints.{checkpoints_of}
use Rattle.xt_record.specs.Format.{run_with}
use Rattle.xt_record.specs.Standing.{IsWalked}

trace_is : (c : ℕ) (z : Traced State) (t : Trace) → StandsFor c z t
    → ◌≡◌ {A = Trace} (record { core = c; count = length z.records; places = places_from 0 z.records; stop = stop_of z.records; pc = z.last.control.pc }) t
trace_is c z t h =
    let made : ℕ → ℕ → List ℕ → Stop → ℕ → Trace = λ core count places stop pc. record { core = core; count = count; places = places; stop = stop; pc = pc } in
    let places = places_from 0 z.records in
    ap (λ (x : ℕ). made x (length z.records) places (stop_of z.records) z.last.control.pc) (sym h.core_is)
    ∙ ap (λ (x : ℕ). made t.core x places (stop_of z.records) z.last.control.pc) (sym h.count_is)
    ∙ ap (λ (x : List ℕ). made t.core t.count x (stop_of z.records) z.last.control.pc) (sym h.places_are)
    ∙ ap (λ (x : Stop). made t.core t.count t.places x z.last.control.pc) (sym h.stop_is)
    ∙ ap (made t.core t.count t.places t.stop) (sym h.pc_is)

pub run_again : (image : Image) (r : Run) → IsRunOf image r → run_with image r.options r.history ≡ r
run_again image r h =
    let made : Trace → Trace → Run = λ s t. record { options = r.options; history = r.history; trace0 = s; trace1 = t } in
    ap (λ (s : Trace). made s (run_with image r.options r.history).trace1) (trace_is 0 (records_of 0 image r) r.trace0 h.trace0)
    ∙ ap (made r.trace0) (trace_is 1 (records_of 1 image r) r.trace1 h.trace1)

pub points_again : (image : Image) (r : Run) (made : Walked) → IsRunOf image r → IsWalked made image (run_with image r.options r.history)
    → made.points.items ≡ checkpoints_of image r
points_again image r made h walked = walked.points_are ∙ ap (checkpoints_of image) (run_again image r h)

pub cores_below : (es : List Entry) → IsOfCores es → All (λ (e : Entry). e.core < 2) es
cores_below es h = λ k d lt. h k (get_or es k d) (slice_get-get_or es k d lt)
