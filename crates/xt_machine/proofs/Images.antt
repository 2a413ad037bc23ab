-- Runs of an image as runs of the processor.
use Rattle.std.proofs.Common.{◌≡◌, ℕ, List, length, replicate, refl, sym, ap, ◌∙◌, subst}
use Rattle.xt_map.specs.declared.segment.Segment.{Segment}
use Rattle.xt_map.specs.Memory.{constant_byte}
use Rattle.xt_trace.specs.Calls.{calls_in}
use Rattle.xt_trace.specs.Validity.{IsValid}
use Rattle.xt_trace.specs.declared.options.Options.{Options}
use Rattle.xt_trace.specs.declared.run.Run.{Run}
use Rattle.xt_trace.specs.declared.trace.Stop.{Stop}
use Rattle.xt_trace.specs.declared.trace.Trace.{Trace}
use Rattle.xt_image.specs.declared.image.Image.{Image}
use Rattle.xt_trace.specs.Chip.{Chip}
use Rattle.xt_trace.specs.Runs.{world_at_start, run_at}
use Rattle.xt_trace.specs.Runs as runs
use Rattle.xt_trace.specs.Schedule.{cores_of, places_from, schedule}
use Rattle.xt_trace.specs.Short.{ShortWorld, short_advance}
use Rattle.xt_trace.specs.Traces.{Traced, stop_of}
use Rattle.xt_trace.proofs.Ends.{run_at_is_run}
use Rattle.xt_trace.proofs.Own.{own_schedule}
use Rattle.xt_exec.specs.Chips.{processor}
use Rattle.xt_exec.specs.State.{State}
use Rattle.xt_core.specs.Runs.{IsRunOf, StandsFor, code_of, opening_of, records_of}
use Rattle.xt_machine.specs.Lists.{run_of_list, schedule_in, trace_for}
use Rattle.xt_machine.specs.Shorts.{opened_world, run_in}
use Rattle.xt_machine.proofs.Rests.{list_finished}

stands_for : (core : ℕ) (z : Traced State) → StandsFor core z (trace_for core z)
stands_for core z = record { core_is = refl; count_is = refl; places_are = refl; stop_is = refl; pc_is = refl }

-- there is one trace that stands for given records
stands_alone : (core : ℕ) (z : Traced State) (t : Trace) → StandsFor core z t → t ≡ trace_for core z
stands_alone core z t h =
    let made : ℕ → ℕ → List ℕ → Stop → ℕ → Trace = λ c n ps stop pc. record { core = c; count = n; places = ps; stop = stop; pc = pc } in
    ap (λ (c : ℕ). made c t.count t.places t.stop t.pc) h.core_is
    ∙ ap (λ (n : ℕ). made core n t.places t.stop t.pc) h.count_is
    ∙ ap (λ (ps : List ℕ). made core (length z.records) ps t.stop t.pc) h.places_are
    ∙ ap (λ (stop : Stop). made core (length z.records) (places_from 0 z.records) stop t.pc) h.stop_is
    ∙ ap (λ (pc : ℕ). made core (length z.records) (places_from 0 z.records) (stop_of z.records) pc) h.pc_is

pub list_is_run : (image : Image) (o : Options) (list : List ℕ) → IsValid o → IsRunOf image (run_of_list image o list)
list_is_run image o list valid =
    let P = processor (code_of image) in
    let r = run_at P (opening_of image o) list in
    let h = run_at_is_run P (opening_of image o) list in
    let F : Traced State → Type 0 = λ z. StandsFor 0 z (trace_for 0 r.trace0) in
    let G : Traced State → Type 0 = λ z. StandsFor 1 z (trace_for 1 r.trace1) in
    record {
      valid = valid;
      legal = h.legal;
      cores = h.cores;
      trace0 = subst F h.trace0 (stands_for 0 r.trace0);
      trace1 = subst G h.trace1 (stands_for 1 r.trace1);
      calls0 = h.calls0 ∙ ap (λ (z : Traced State). calls_in z.records) h.trace0;
      calls1 = h.calls1 ∙ ap (λ (z : Traced State). calls_in z.records) h.trace1;
    }

-- the run with the records that its traces stand for
abbrev whole : Image → Run → runs.Run State
whole image r = record { history = r.history; trace0 = records_of 0 image r; trace1 = records_of 1 image r }

abbrev kept : Options → runs.Run State → Run
kept o x = record { options = o; history = x.history; trace0 = trace_for 0 x.trace0; trace1 = trace_for 1 x.trace1 }

pub own_list : (image : Image) (r : Run) → IsRunOf image r → run_of_list image r.options (schedule_in r) ≡ r
own_list image r h =
    let P = processor (code_of image) in
    let o = opening_of image r.options in
    let x = whole image r in
    let is : runs.IsRunOf P o x = record { legal = h.legal; cores = h.cores; trace0 = refl; trace1 = refl; calls0 = h.calls0; calls1 = h.calls1 } in
    let t0 = stands_alone 0 x.trace0 r.trace0 h.trace0 in
    let t1 = stands_alone 1 x.trace1 r.trace1 h.trace1 in
    let order : Trace → Trace → List ℕ = λ s t. schedule (cores_of r.history) s.places s.count t.places t.count in
    let made : Trace → Trace → Run = λ s t. record { options = r.options; history = r.history; trace0 = s; trace1 = t } in
    ap (λ (list : List ℕ). kept r.options (run_at P o list)) (ap (λ (s : Trace). order s r.trace1) t0 ∙ ap (order (trace_for 0 x.trace0)) t1)
    ∙ ap (kept r.options) (own_schedule P o x is)
    ∙ sym (ap (λ (s : Trace). made s r.trace1) t0 ∙ ap (made (trace_for 0 x.trace0)) t1)

-- a list, core 0's rest and core 1's rest come to the run of the list
pub comes_to_list : (image : Image) (o : Options) (list : List ℕ) (segments : List Segment) (w a b c : ShortWorld State) (r : Run) → segments ≡ image.segments
    → w ≡ opened_world image o → a ≡ short_advance (processor (constant_byte segments)) list w
    → b ≡ short_advance (processor (constant_byte segments)) (replicate a.core0.left 0) a
    → c ≡ short_advance (processor (constant_byte segments)) (replicate b.core1.left 1) b → r ≡ run_in o c → r ≡ run_of_list image o list
comes_to_list image o list segments w a b c r same is_w is_a is_b is_c is_r =
    let at : List Segment → Chip State = λ s. processor (constant_byte s) in
    is_r ∙ ap (run_in o) (list_finished (at image.segments) list (world_at_start (opening_of image o)) a b c
    (is_a ∙ ap (λ (s : List Segment). short_advance (at s) list w) same ∙ ap (short_advance (at image.segments) list) is_w)
    (is_b ∙ ap (λ (s : List Segment). short_advance (at s) (replicate a.core0.left 0) a) same)
    (is_c ∙ ap (λ (s : List Segment). short_advance (at s) (replicate b.core1.left 1) b) same))

pub is_list_run : (image : Image) (o : Options) (list : List ℕ) (r : Run) → IsValid o → r ≡ run_of_list image o list → IsRunOf image r
is_list_run image o list r valid is = let F : Run → Type 0 = λ x. IsRunOf image x in subst F (sym is) (list_is_run image o list valid)
