-- A run of an image has a schedule.
use Rattle.std.proofs.Common.{◌≡◌, ℕ, ◌≤◌, List, length, refl, sym, ap, ◌∙◌, subst}
use Rattle.xt_map.specs.History.{calls_of}
use Rattle.xt_trace.specs.declared.run.Run.{Run}
use Rattle.xt_trace.specs.declared.trace.Trace.{Trace}
use Rattle.xt_image.specs.declared.image.Image.{Image}
use Rattle.xt_trace.specs.Schedule.{places_from}
use Rattle.xt_trace.specs.Scheduled.{HasSchedule}
use Rattle.xt_trace.specs.Short.{IsRising, IsShortRunOf, ShortRun, short_trace}
use Rattle.xt_trace.specs.Traces.{Traced}
use Rattle.xt_trace.proofs.Short.{HasPlaces, run_has_places}
use Rattle.xt_exec.specs.Chips.{processor}
use Rattle.xt_exec.specs.State.{State}
use Rattle.xt_core.specs.Runs.{IsRunOf, StandsFor, code_of, opening_of, records_of}

-- the trace of a core, by what is known of its records
traced : (core turns calls : ℕ) (z : Traced State) (t : Trace) → StandsFor core z t → length z.records ≤ turns → IsRising 0 (places_from 0 z.records) (length z.records) → length (places_from 0 z.records) ≡ calls
    → (t.core ≡ core) × (t.count ≤ turns) × IsRising 0 t.places t.count × (length t.places ≡ calls)
traced core turns calls z t h few rise each =
    let F : ℕ → Type 0 = λ n. n ≤ turns in
    let G : ℕ → Type 0 = λ n. IsRising 0 (places_from 0 z.records) n in
    let H : List ℕ → Type 0 = λ ps. IsRising 0 ps t.count in
    (h.core_is, subst F (sym h.count_is) few, subst H (sym h.places_are) (subst G (sym h.count_is) rise), ap (λ (ps : List ℕ). length ps) h.places_are ∙ each)

pub has_schedule : (image : Image) (r : Run) → IsRunOf image r → HasSchedule r
has_schedule image r h =
    let P = processor (code_of image) in
    let o = opening_of image r.options in
    let z0 = records_of 0 image r in
    let z1 = records_of 1 image r in
    let s : ShortRun State = record { history = r.history; trace0 = short_trace z0; trace1 = short_trace z1 } in
    let is : IsShortRunOf P o s = record { legal = h.legal; cores = h.cores; trace0 = refl; trace1 = refl; calls0 = h.calls0; calls1 = h.calls1 } in
    let has : HasPlaces P o s = run_has_places P o s is in
    let a = traced 0 r.options.turns0 (length (calls_of 0 r.history)) z0 r.trace0 h.trace0 has.turns0 has.rise0 has.calls0 in
    let b = traced 1 r.options.turns1 (length (calls_of 1 r.history)) z1 r.trace1 h.trace1 has.turns1 has.rise1 has.calls1 in
    record {
      valid = h.valid;
      cores = h.cores;
      trace0 = record { core_is = a.0; short = a.1; rise = a.2; calls = a.3 };
      trace1 = record { core_is = b.0; short = b.1; rise = b.2; calls = b.3 };
    }
