-- Runs of images: their walk, and that what is asked of each run that is judged holds of them.
use Rattle.std.specs.Prelude.{find, slice_index}
use Rattle.std.specs.Option.{option_map_or}
use Rattle.std.proofs.Common.{◌≡◌, ℕ, zero, suc, ◌-◌, ◌^◌, ◌<◌, Bool, true, false, cond, Option, Some, List, [], ◌∷◌, sym, ap, ◌∙◌, refl, arith, subst}
use Rattle.xt_map.specs.declared.segment.Segment.{Segment}
use Rattle.xt_map.specs.Memory.{constant_byte, holds_address, loaded_byte}
use Rattle.xt_map.specs.Regions.{is_constant, region_of}
use Rattle.xt_map.specs.History.{replies_of}
use Rattle.xt_map.specs.Touching.{IsMemory}
use Rattle.xt_trace.specs.declared.options.Options.{Options}
use Rattle.xt_trace.specs.declared.record.StepRecord.{StepRecord}
use Rattle.xt_trace.specs.Runs.{IsRunOf, Opening, Run, world_at_start, schedule_of}
use Rattle.xt_trace.specs.Schedule.{cores_of, schedule}
use Rattle.xt_trace.specs.Short.{IsShortRunOf, ShortRun, ShortTrace, short_schedule, short_trace}
use Rattle.xt_trace.specs.Traces.{trace_over}
use Rattle.xt_trace.specs.Walks.{IsWalk}
use Rattle.xt_trace.proofs.Walks.{own_walk}
use Rattle.xt_map.specs.Code.{AreBytes}
use Rattle.xt_exec.specs.State.{State}
use Rattle.xt_exec.specs.Chips.{processor}
use Rattle.xt_frames.specs.FirstBreach.{Course}
use Rattle.xt_simulation.specs.Opening as simulation
use Rattle.xt_simulation.specs.Opening.{AreSmall, IsRunnable, Openings, memory_of, openings_of, state0, state1}
use Rattle.xt_simulation.specs.Headline.{IsRunOfImage, opening_of, records0, records1}
use Rattle.xt_simulation.proofs.Opened.{opening_is_memory, stack_shaped}
use Rattle.xt_uses.specs.UseLaws as uses
use Rattle.xt_uses.proofs.LaterUses.{uses_later}
use Rattle.xt_simulation.specs.UseRunLaws.{RunsAreOrdinary, UsesOfRunsAreLater, course_of}
use Rattle.xt_simulation.proofs.OrdinaryRuns.{AreShaped, is_ordinary, tells_words}

-- ---- a run's own schedule walks the records of its traces
short_walk : (code : ℕ → ℕ) (o : Opening State) (r : ShortRun State) → IsShortRunOf (processor code) o r
    → IsWalk (processor code) (short_schedule r) (world_at_start o) (trace_over (processor code) o.state0 o.turns0 (replies_of 0 r.history)).records (trace_over (processor code) o.state1 o.turns1 (replies_of 1 r.history)).records
short_walk code o r h =
    let whole : Run State = record {
      history = r.history;
      trace0 = trace_over (processor code) o.state0 o.turns0 (replies_of 0 r.history);
      trace1 = trace_over (processor code) o.state1 o.turns1 (replies_of 1 r.history);
    } in
    let is : IsRunOf (processor code) o whole = record { legal = h.legal; cores = h.cores; trace0 = refl; trace1 = refl; calls0 = h.calls0; calls1 = h.calls1 } in
    let in_order : ShortTrace State → ShortTrace State → List ℕ = λ x y. schedule (cores_of r.history) x.places x.count y.places y.count in
    let same : schedule_of whole ≡ short_schedule r = ap (λ (x : ShortTrace State). in_order x (short_trace whole.trace1)) (sym h.trace0) ∙ ap (in_order r.trace0) (sym h.trace1) in
    subst (λ (cores : List ℕ). IsWalk (processor code) cores (world_at_start o) whole.trace0.records whole.trace1.records) same (own_walk (processor code) o whole is)

-- ---- what an image that can be run opens with
small_if : (b : Bool) (s : Segment) (o : Option Segment) (f : Segment → ℕ) → f s < 2 ^ 8 → option_map_or f o 0 < 2 ^ 8 → option_map_or f (cond b (Some s) o) 0 < 2 ^ 8
small_if true s o f p q = p
small_if false s o f p q = q

small_byte : (segments : List Segment) (a : ℕ) → AreSmall segments → loaded_byte segments a < 2 ^ 8
small_byte [] a h = omega arith
small_byte (s ∷ rest) a h = small_if (holds_address a s) s (find (holds_address a) rest) (λ (s : Segment). slice_index s.bytes (a - s.addr)) (h.0 (a - s.addr)) (small_byte rest a h.1)

pub code_bytes : (segments : List Segment) → AreSmall segments → AreBytes (constant_byte segments)
unfolding constant_byte
code_bytes segments h a = by_region (is_constant (region_of a))
  where
    by_region : (b : Bool) → cond b (loaded_byte segments a) 0 < 2 ^ 8
    by_region true = small_byte segments a h
    by_region false = omega arith

module _ (segments : List Segment) (entry : ℕ) (o : Options) (given : IsRunnable segments entry o) where
  abbrev at : Openings
  at = openings_of segments entry o

  pub opening_is : simulation.IsOpening at
  opening_is = record {
    stack0 = record { low = given.valid.stack0.low; high = given.valid.stack0.high; low_aligned = given.valid.stack0.lo_aligned; high_aligned = given.valid.stack0.hi_aligned; room = given.valid.stack0.size };
    stack1 = record { low = given.valid.stack1.low; high = given.valid.stack1.high; low_aligned = given.valid.stack1.lo_aligned; high_aligned = given.valid.stack1.hi_aligned; room = given.valid.stack1.size };
    aligned = given.valid.vecbase;
    vectors = given.vecbase;
    segments = given.bytes;
    entry0 = given.entry0;
    entry1 = given.entry1;
  }

  memory_is : IsMemory (memory_of at)
  memory_is = opening_is_memory segments at.range0 at.range1 given.bytes

  shaped_at : AreShaped (memory_of at) (state0 at) (state1 at)
  shaped_at = record {
    first = stack_shaped 0 entry o.vecbase at.range0 opening_is.stack0 given.entry0 given.valid.vecbase given.vecbase;
    second = stack_shaped 1 o.entry1 o.vecbase at.range1 opening_is.stack1 given.entry1 given.valid.vecbase given.vecbase;
    real = memory_is;
  }

  module _ (r : ShortRun State) where
    abbrev course : Course
    course = course_of segments entry o r

    core_opens : (core : ℕ) → uses.IsOpening (course.opening core)
    core_opens zero = record {
      core = 0;
      pc = entry;
      vecbase = o.vecbase;
      stack_end = at.range0.hi;
      opens = refl;
      pc_word = given.entry0;
      vecbase_word = given.vecbase;
      vectors = given.valid.vecbase;
      stack_word = let high = opening_is.stack0.high in omega (arith, high);
    }
    core_opens (suc core) = record {
      core = 1;
      pc = o.entry1;
      vecbase = o.vecbase;
      stack_end = at.range1.hi;
      opens = refl;
      pc_word = given.entry1;
      vecbase_word = given.vecbase;
      vectors = given.valid.vecbase;
      stack_word = let high = opening_is.stack1.high in omega (arith, high);
    }

    pub image_walk : IsRunOfImage segments entry o r → IsWalk (processor (constant_byte segments)) (short_schedule r) (world_at_start (opening_of at o.turns0 o.turns1)) (records0 at (constant_byte segments) o.turns0 r) (records1 at (constant_byte segments) o.turns1 r)
    image_walk run = short_walk (constant_byte segments) (opening_of at o.turns0 o.turns1) r run

    ordinary_run : IsRunOfImage segments entry o r → uses.IsOrdinary course × uses.TellsWords course × IsMemory (memory_of at)
    ordinary_run run =
        let bytes = code_bytes segments given.bytes in
        let w = world_at_start (opening_of at o.turns0 o.turns1) in
        let xs : List StepRecord = records0 at (constant_byte segments) o.turns0 r in
        let ys : List StepRecord = records1 at (constant_byte segments) o.turns1 r in (
          is_ordinary course bytes (short_schedule r) w xs ys (image_walk run) refl shaped_at core_opens,
          tells_words course bytes (short_schedule r) w xs ys (image_walk run) refl shaped_at,
          memory_is,
        )

-- ---- the laws
pub runs_are_ordinary : RunsAreOrdinary
runs_are_ordinary segments entry o r given run = ordinary_run segments entry o given r run

pub uses_of_runs_are_later : UsesOfRunsAreLater
uses_of_runs_are_later segments entry o r given run h p q breach found history first used =
    uses_later (course_of segments entry o r) h p q breach found (ordinary_run segments entry o given r run).0 history first used
