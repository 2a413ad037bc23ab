-- A run of an image with valid options, of which the history and the places of the accesses are kept.
use Rattle.std.proofs.Common.{◌≡◌, ℕ, ◌-◌, ◌<◌, ◌^◌, Bool, true, false, cond, Option, Some, List, [], ◌∷◌, sym, ap, ◌∙◌, refl, arith, subst}
use Rattle.xt_map.specs.Code.{AreBytes}
use Rattle.xt_map.specs.declared.segment.Segment.{Segment}
use Rattle.std.specs.Prelude.{find, slice_index}
use Rattle.std.specs.Option.{option_map_or}
use Rattle.xt_map.specs.Memory.{constant_byte, loaded_byte, holds_address}
use Rattle.xt_map.specs.Regions.{region_of, is_constant}
use Rattle.xt_map.specs.History.{replies_of}
use Rattle.xt_trace.specs.declared.options.Stack.{Stack}
use Rattle.xt_trace.specs.declared.options.Options.{Options}
use Rattle.xt_trace.specs.Validity.{IsValidStack}
use Rattle.xt_trace.specs.Traces.{trace_over}
use Rattle.xt_trace.specs.Schedule.{schedule, cores_of}
use Rattle.xt_trace.specs.Short.{ShortRun, IsShortRunOf, short_trace, short_schedule}
use Rattle.xt_trace.specs.Runs.{Opening, Run, IsRunOf, schedule_of}
use Rattle.xt_exec.specs.State.{State}
use Rattle.xt_exec.specs.Chips.{processor}
use Rattle.xt_handlers.specs.Vectors.{Handlers}
use Rattle.std.proofs.Common.{zero, suc, ◌<◌}
use Rattle.xt_handlers.specs.declared.stretch.Side.{Side}
use Rattle.xt_handlers.specs.declared.stretch.Side.TheVariants.{Overflow, Underflow}
use Rattle.xt_handlers.specs.declared.stretch.HandlerVerdict.TheVariants.{Yes}
use Rattle.xt_handlers.specs.Vectors.{verdict_of}
use Rattle.xt_simulation.specs.Headline.{SixSuffice}
use Rattle.xt_simulation.specs.Walking.{Apart}
use Rattle.xt_simulation.specs.Opening.{IsOpening, IsStack, AreSmall, IsRunnable, openings_of, range_of}
use Rattle.xt_simulation.specs.Headline.{IsCovered, WindowsAreFrames, AreFrames, opening_of, judged_in, records0, records1}
use Rattle.xt_simulation.specs.Headline.{HaveMovedFrames, StretchesOfImages}
use Rattle.xt_simulation.specs.Headline.{AreAllJudged, ImagesAreAllJudged}
use Rattle.xt_simulation.proofs.Positions.{runs_are_frames, stretches_of_runs}
use Rattle.xt_simulation.proofs.AllJudged.{runs_are_all_judged}

-- the run with its records
with_records : (o : Opening State) (code : ℕ → ℕ) → ShortRun State → Run State
with_records o code r = record {
  history = r.history;
  trace0 = trace_over (processor code) o.state0 o.turns0 (replies_of 0 r.history);
  trace1 = trace_over (processor code) o.state1 o.turns1 (replies_of 1 r.history);
}

is_run : (o : Opening State) (code : ℕ → ℕ) (r : ShortRun State) → IsShortRunOf (processor code) o r → IsRunOf (processor code) o (with_records o code r)
unfolding with_records
is_run o code r h = record { legal = h.legal; cores = h.cores; trace0 = refl; trace1 = refl; calls0 = h.calls0; calls1 = h.calls1 }

same_schedule : (o : Opening State) (code : ℕ → ℕ) (r : ShortRun State) → IsShortRunOf (processor code) o r → schedule_of (with_records o code r) ≡ short_schedule r
unfolding with_records
same_schedule o code r h = ap (λ t. schedule (cores_of r.history) t.places t.count (short_trace (with_records o code r).trace1).places (short_trace (with_records o code r).trace1).count) (sym h.trace0)
    ∙ ap (λ t. schedule (cores_of r.history) r.trace0.places r.trace0.count t.places t.count) (sym h.trace1)

first_small : (b : Bool) (s : Segment) (o : Option Segment) (f : Segment → ℕ) → f s < 2 ^ 8 → option_map_or f o 0 < 2 ^ 8 → option_map_or f (cond b (Some s) o) 0 < 2 ^ 8
first_small true s o f p q = p
first_small false s o f p q = q

small_byte : (segments : List Segment) (a : ℕ) → AreSmall segments → loaded_byte segments a < 2 ^ 8
small_byte [] a h = omega arith
small_byte (s ∷ rest) a h = first_small (holds_address a s) s (find (holds_address a) rest) (λ (s : Segment). slice_index s.bytes (a - s.addr)) (h.0 (a - s.addr)) (small_byte rest a h.1)

constant_bytes : (segments : List Segment) → AreSmall segments → AreBytes (constant_byte segments)
unfolding constant_byte
constant_bytes segments h a = if_small (is_constant (region_of a))
  where
    if_small : (b : Bool) → cond b (loaded_byte segments a) 0 < 2 ^ 8
    if_small true = small_byte segments a h
    if_small false = omega arith

stack_of : (s : Stack) → IsValidStack s → IsStack (range_of s)
stack_of s v = record { low = v.low; high = v.high; low_aligned = v.lo_aligned; high_aligned = v.hi_aligned; room = v.size }

is_opening : (segments : List Segment) (entry : ℕ) (o : Options) → IsRunnable segments entry o → IsOpening (openings_of segments entry o)
is_opening segments entry o h = record {
  stack0 = stack_of o.stack0 h.valid.stack0;
  stack1 = stack_of o.stack1 h.valid.stack1;
  aligned = h.valid.vecbase;
  vectors = h.vecbase;
  segments = h.bytes;
  entry0 = h.entry0;
  entry1 = h.entry1;
}

pub six_suffice : SixSuffice
six_suffice code vecbase h = by_size
  where
    by_size : (side : Side) (n : ℕ) → 0 < n → n < 4 → verdict_of code vecbase side n ≡ Yes
    by_size side zero p q = absurd (omega arith)
    by_size Overflow (suc zero) p q = h.of4
    by_size Underflow (suc zero) p q = h.uf4
    by_size Overflow (suc (suc zero)) p q = h.of8
    by_size Underflow (suc (suc zero)) p q = h.uf8
    by_size Overflow (suc (suc (suc zero))) p q = h.of12
    by_size Underflow (suc (suc (suc zero))) p q = h.uf12
    by_size side (suc (suc (suc (suc n)))) p q = absurd (omega arith)

covered_by : (segments : List Segment) (entry : ℕ) (o : Options) → IsRunnable segments entry o → Handlers (constant_byte segments) o.vecbase → Apart (range_of o.stack0) (range_of o.stack1) → IsCovered (openings_of segments entry o) (constant_byte segments)
covered_by segments entry o given handlers apart = record { opening = is_opening segments entry o given; bytes = constant_bytes segments given.bytes; handlers = handlers; apart = apart }

pub windows_are_frames : WindowsAreFrames
unfolding with_records
windows_are_frames segments entry o r given handlers apart run =
    let at = openings_of segments entry o in
    let code = constant_byte segments in
    let opening : Opening State = opening_of at o.turns0 o.turns1 in
    let P : List ℕ → Type 0 = λ cores. AreFrames at code (judged_in at code cores (records0 at code o.turns0 r) (records1 at code o.turns1 r)) in
    subst P (same_schedule opening code r run) (runs_are_frames at code o.turns0 o.turns1 (with_records opening code r) (covered_by segments entry o given handlers apart) (is_run opening code r run))

pub stretches_of_images : StretchesOfImages
unfolding with_records
stretches_of_images segments entry o r given handlers apart run =
    let at = openings_of segments entry o in
    let code = constant_byte segments in
    let opening : Opening State = opening_of at o.turns0 o.turns1 in
    let P : List ℕ → Type 0 = λ cores. HaveMovedFrames at code o.turns0 o.turns1 cores (records0 at code o.turns0 r) (records1 at code o.turns1 r) in
    subst P (same_schedule opening code r run) (stretches_of_runs at code o.turns0 o.turns1 (with_records opening code r) (covered_by segments entry o given handlers apart) (is_run opening code r run))

pub images_are_all_judged : ImagesAreAllJudged
unfolding with_records
images_are_all_judged segments entry o r run =
    let at = openings_of segments entry o in
    let code = constant_byte segments in
    let opening : Opening State = opening_of at o.turns0 o.turns1 in
    let P : List ℕ → Type 0 = λ cores. AreAllJudged at code cores (records0 at code o.turns0 r) (records1 at code o.turns1 r) in
    subst P (same_schedule opening code r run) (runs_are_all_judged at code o.turns0 o.turns1 (with_records opening code r) (is_run opening code r run))
