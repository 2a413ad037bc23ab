-- What a contract sees of a core of the machine with unbounded frames, and what its functions
-- answer ('profile').
use Rattle.std.specs.Prelude.{◌≡◌, ℕ, zero, suc, true, ◌+◌, ◌-◌, Bool, ◌&&◌, ◌==◌, Option, Some}
use Rattle.std.specs.Prelude.{None, Result, Ok, Err, List, [], ◌∷◌, length}
use Rattle.xt_trace.specs.declared.options.Options.{Options}
use Rattle.xt_trace.specs.declared.options.Stack.{Stack}
use Rattle.xt_trace.specs.declared.record.StepRecord.{StepRecord}
use Rattle.xt_frames.specs.declared.kinds.Breach.{Breach}
use Rattle.xt_frames.specs.declared.kinds.BreachKind.{BreachKind}
use Rattle.xt_frames.specs.declared.breach.Limits.{Limits}
use Rattle.xt_frames.specs.Frames.{Frame, FrameState, value_or_zero, opening_frame}
use Rattle.xt_frames.specs.SaveAreas.{sp_of}
use Rattle.xt_frames.specs.Breaches.{Bounds, breach_of}
use Rattle.xt_frames.specs.Judging.{fresh_on, step_on}

-- a core: its number, what it is judged by, its frame state, whether EPC1 has what was last
-- written, and the number of the record after the last judged one
pub record Walked : Type 0 where
  pub core : ℕ
  pub bounds : Bounds
  pub state : FrameState
  pub fresh : Bool
  pub next : ℕ

abbrev pub bounds_of : Limits → Bounds
bounds_of l = record { range = record { lo = l.lo; hi = l.hi }; vecbase = l.vecbase }

-- EPC1 has what was last written before the record of this number: a gap in the numbers shows that
-- handler steps stood there
abbrev pub fresh_before : Walked → ℕ → Bool
fresh_before w index = w.fresh && (w.next == index)

-- a core after a judged record of this number
abbrev pub walked_past : Walked → (ℕ → ℕ) → ℕ → Bool → StepRecord → Walked
walked_past w code index nested rec =
    record w {
      state = (step_on code nested rec w.state).after;
      fresh = fresh_on (fresh_before w index) code nested rec w.state;
      next = index + 1;
    }

-- the answer where a step shows this breach, and the core that it leaves
abbrev pub IsBreach : Option BreachKind → Walked → ℕ → Breach → Type 0
IsBreach found w index b = found ≡ Some b.kind × (b.core ≡ w.core) × (b.step ≡ index)

abbrev pub IsJudged :
    Option BreachKind → Walked → (ℕ → ℕ) → ℕ → Bool → StepRecord → Result Unit Breach → Walked
    → Type 0
IsJudged found w code index nested rec (Ok u) new =
    (found ≡ None) × (new ≡ walked_past w code index nested rec)
IsJudged found w code index nested rec (Err b) new = IsBreach found w index b × (new ≡ w)

-- the first breach of a record of this number
abbrev pub found_in :
    Walked → (ℕ → ℕ) → (ℕ → Bool) → (ℕ → Bool) → ℕ → Bool → StepRecord → Option BreachKind
found_in w code live stale index nested rec =
    breach_of w.bounds (fresh_before w index) code live stale nested rec w.state

-- ---- a core as it opens, and its frames by number

abbrev pub stack_of : ℕ → Options → Stack
stack_of zero o = o.stack0
stack_of (suc core) o = o.stack1

abbrev pub opening_walked : ℕ → ℕ → Options → Walked
opening_walked core pc o = record {
  core = core;
  bounds = record {
    range = record { lo = (stack_of core o).lo; hi = (stack_of core o).hi };
    vecbase = o.vecbase;
  };
  state = opening_frame core pc o.vecbase (stack_of core o).hi;
  fresh = true;
  next = 0;
}

-- frame j is the one that the first j calls opened, so that the opening frame is 0; its stack
-- pointer is a1 as it was kept for it, or of the newest frame a1
abbrev pub sp_in : List Frame → ℕ → ℕ → ℕ
sp_in [] sp back = sp
sp_in (f ∷ fs) sp zero = sp
sp_in (f ∷ fs) sp (suc back) = sp_in fs (sp_of f) back

abbrev pub sp_at : Walked → ℕ → ℕ
sp_at w j = sp_in w.state.frames (value_or_zero w.state.seen 1) (length w.state.frames - j)

-- by how many windows the frame called that stands so many below the newest
abbrev pub calls_in : List Frame → ℕ → ℕ
calls_in [] back = 0
calls_in (f ∷ fs) zero = f.by
calls_in (f ∷ fs) (suc back) = calls_in fs back

abbrev pub calls_at : Walked → ℕ → ℕ
calls_at w j = calls_in w.state.frames (length w.state.frames - 1 - j)

-- the answer of a test without a step
abbrev pub IsTested : Option BreachKind → Walked → ℕ → Result Unit Breach → Type 0
IsTested found w index (Ok u) = found ≡ None
IsTested found w index (Err b) = IsBreach found w index b
