-- States laws of the relation between the processor and the machine of uses: a run of an image is a
-- run of it, and what a run shows of uses comes no sooner than what it shows of the stack
-- discipline.
use Rattle.std.specs.Prelude.{◌≡◌, ℕ, ◌%◌, ◌≤◌, ◌^◌, Option, None, List}
use Rattle.xt_map.specs.declared.segment.Segment.{Segment}
use Rattle.xt_map.specs.Memory.{constant_byte}
use Rattle.xt_map.specs.Touching.{IsMemory}
use Rattle.xt_trace.specs.declared.options.Options.{Options}
use Rattle.xt_trace.specs.Short.{ShortRun, short_schedule}
use Rattle.xt_rows.specs.RowLaws.{IsWord}
use Rattle.xt_exec.specs.State.{State}
use Rattle.xt_frames.specs.declared.kinds.Breach.{Breach}
use Rattle.xt_frames.specs.Frames.{opening_frame}
use Rattle.xt_frames.specs.FirstBreach.{Course, IsFirstBreach, by_core, turns}
use Rattle.xt_handlers.specs.Vectors.{Handlers}
use Rattle.xt_simulation.specs.Opening.{IsRunnable, bounds0, bounds1, frame0, frame1, memory_of}
use Rattle.xt_simulation.specs.Opening.{openings_of}
use Rattle.xt_simulation.specs.Headline.{IsRunOfImage, records0, records1}
use Rattle.xt_simulation.specs.Walking.{Apart}
use Rattle.xt_uses.specs.declared.discipline.Discipline.{Discipline}
use Rattle.xt_uses.specs.declared.discipline.Discipline.TheVariants.{Lenient}
use Rattle.xt_uses.specs.UseState.{opening_use}
use Rattle.xt_uses.specs.FirstUse.{History, IsFirstUse, IsHistory, carried_count}
use Rattle.xt_uses.specs.UseLaws.{IsOrdinary, IsUseRun, TellsWords}
use Rattle.xt_simulation.specs.Knowing.{Knows}

-- both machines open alike, and all is known
abbrev pub ShadowsOpen : Type 0
ShadowsOpen =
    (d : Discipline) (core pc vecbase stack_end : ℕ)
    → IsWord pc → vecbase % 2 ^ 10 ≡ 0 → IsWord vecbase → 64 ≤ stack_end → IsWord stack_end
    → let f = opening_frame core pc vecbase stack_end in
    Knows f (opening_use d f)

-- ---- a run of an image, of which the history and the places of the accesses are kept

-- what is judged of it: its turns in the order of its own schedule
abbrev pub course_of : List Segment → ℕ → Options → ShortRun State → Course
course_of segments entry o r =
    let at = openings_of segments entry o in
    let code = constant_byte segments in
    record {
      code = code;
      bounds = by_core (bounds0 at) (bounds1 at);
      opening = by_core (frame0 at) (frame1 at);
      turns =
          turns
          (short_schedule r)
          (records0 at code o.turns0 r)
          (records1 at code o.turns1 r);
    }

-- Where the six window handlers pass their check and the two stacks are apart, the judged records of
-- a run before the first breach of uses are a run of the machine of uses.
abbrev pub UsesAreSo : Type 0
UsesAreSo =
    (segments : List Segment) (entry : ℕ) (o : Options) (r : ShortRun State)
    → IsRunnable segments entry o
    → Handlers (constant_byte segments) o.vecbase
    → Apart (openings_of segments entry o).range0 (openings_of segments entry o).range1
    → IsRunOfImage segments entry o r
    → IsUseRun (course_of segments entry o r) (memory_of (openings_of segments entry o))

-- Whatever its handlers and its stacks, a run has what is asked of each run that is judged.
abbrev pub RunsAreOrdinary : Type 0
RunsAreOrdinary =
    (segments : List Segment) (entry : ℕ) (o : Options) (r : ShortRun State)
    → IsRunnable segments entry o
    → IsRunOfImage segments entry o r
    → IsOrdinary (course_of segments entry o r)
    × TellsWords (course_of segments entry o r)
    × IsMemory (memory_of (openings_of segments entry o))

-- So its first breach of the lenient discipline comes no sooner than its first of the stack discipline; and where it
-- keeps the stack discipline, it shows none of that, and carries nothing that is not known.
abbrev pub UsesOfRunsAreLater : Type 0
UsesOfRunsAreLater =
    (segments : List Segment) (entry : ℕ) (o : Options) (r : ShortRun State)
    → IsRunnable segments entry o
    → IsRunOfImage segments entry o r
    → (h : History) (p q : ℕ) (breach found : Option Breach)
    → IsHistory Lenient (course_of segments entry o r) h
    → IsFirstBreach (course_of segments entry o r) p breach
    → IsFirstUse (course_of segments entry o r) h q found
    → (p ≤ q)
    × (breach ≡ None
    → (found ≡ None)
    × (carried_count (course_of segments entry o r) h 0 q ≡ 0)
    × (carried_count (course_of segments entry o r) h 1 q ≡ 0))
