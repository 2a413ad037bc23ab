-- Carries a proof; nothing that a reader must believe.
-- One core of the walk of the judge.
use Rattle.std.specs.Prelude.{◌≡◌, ℕ, suc, ◌+◌, ◌-◌, ◌<◌, ◌≤◌, ◌^◌, Bool, ◌||◌, Option}
use Rattle.std.specs.Prelude.{Some, None, Result, Ok, Err, List, ◌∷◌, length}
use Rattle.xt_map.specs.Touching.{touches}
use Rattle.xt_frames.specs.SaveAreas.{is_live}
use Rattle.xt_frames.specs.Frames.{Frame, FrameState, value_or_zero}
use Rattle.xt_frames.specs.Stacks.{Calls, Moves, Stays}
use Rattle.xt_frames.specs.Stacks as moves
use Rattle.xt_frames.specs.declared.kinds.Breach.{Breach}
use Rattle.xt_frames.specs.declared.kinds.BreachKind.{BreachKind}
use Rattle.xt_frames.specs.declared.kinds.HandlerPhase.TheVariants.{InHandler}
use Rattle.xt_frames.specs.Judging.{Standing, Seen, Handled, Judges, Breaks}
use Rattle.xt_frames.specs.Walked.{Walked, fresh_before}
use Rattle.xt_discipline.specs.declared.bytes.Held.{Held}
use Rattle.xt_discipline.specs.declared.bytes.Change.TheVariants.{Enters, Leaves}
use Rattle.xt_discipline.specs.declared.side.Areas.{Areas}
use Rattle.xt_discipline.specs.declared.side.Side.{Side}
use Rattle.xt_discipline.specs.ByteMarks.{AreChanged, KnowsOf, first, opened_at}

-- the byte lies in one of both areas
abbrev pub in_areas : Areas → ℕ → Bool
in_areas x a = touches x.low 16 a || touches x.high x.size a

-- the live bytes of a core
abbrev pub live_in : Walked → ℕ → Bool
live_in w a = is_live w.bounds.range w.state a

-- its number and the end of its stack are those of its frames, its stack lies in internal data
-- memory, and the last judged record comes before the next one
pub record IsSide (s : Side) : Type 0 where
  pub core_is : s.frames.core ≡ s.core
  pub end_is : s.frames.bounds.range.hi ≡ s.hi
  pub low : first ≤ s.frames.bounds.range.lo
  pub high : s.frames.bounds.range.hi ≤ 2 ^ 30
  pub past : s.frames.next ≤ s.steps

-- the areas of the newest call; the first is the 16 bytes below the newest frame's stack pointer
pub record IsNewestCall (x : Areas) (hi : ℕ) (g : FrameState) : Type 0 where
  pub called : 0 < length g.frames
  pub low : x.low ≡ value_or_zero g.seen 1 - 16
  pub bytes :
      (f : Frame) (fs : List Frame) → g.frames ≡ f ∷ fs → (a : ℕ)
      → in_areas x a ≡ opened_at hi (value_or_zero g.seen 1) f fs a

-- none where there is none
abbrev pub IsCallOf : Option Areas → ℕ → FrameState → Type 0
IsCallOf None hi g = length g.frames ≡ 0
IsCallOf (Some x) hi g = IsNewestCall x hi g

-- what becomes of the marks: nothing, or the areas of a call come in, or go
abbrev pub IsFollowed :
    (core hi : ℕ) (g u : FrameState) → Moves g u → List Held → List Held → Type 0
IsFollowed core hi g u (Stays e s) mid new = new ≡ mid
IsFollowed core hi g u (Calls f e s) mid new =
    AreChanged (Enters core) (opened_at hi (value_or_zero u.seen 1) f g.frames) mid new
IsFollowed core hi g u (moves.Leaves f e s) mid new =
    AreChanged (Leaves core) (opened_at hi (value_or_zero g.seen 1) f u.frames) mid new

-- ---- a record of the core

-- what the definition of the verdict knows of the core
abbrev pub standing_of : Side → Standing
standing_of s = record {
  frame = s.frames.state;
  fresh = fresh_before s.frames s.steps;
  phase = s.phase;
}

-- the core past one record more, which leaves it so, and the marks as those of these bytes
pub record IsPast
    (old new : Side) (marks : List Held) (others stale : ℕ → Bool) (st : Standing) : Type 0 where
  pub side : IsSide new
  pub core_is : new.core ≡ old.core
  pub bounds_are : new.frames.bounds ≡ old.frames.bounds
  pub steps_are : new.steps ≡ suc old.steps
  pub standing_is : standing_of new ≡ st
  pub marks_are : KnowsOf old.core marks (is_live old.frames.bounds.range st.frame) others stale

-- the answer is what the definition sees in the record
abbrev pub IsSeen :
    Side → Side → List Held → (ℕ → Bool) → (ℕ → Bool) → Seen → Result Unit Breach → Type 0
IsSeen old new marks others stale (Handled st) (Ok u) = IsPast old new marks others stale st
IsSeen old new marks others stale (Judges st after) (Ok u) = IsPast old new marks others after st
IsSeen old new marks others stale (Breaks kind) (Err b) =
    b ≡ record { core = old.core; step = old.steps; kind = kind }
IsSeen old new marks others stale _ _ = ⊥

-- handler steps begin, where the record that begins them shows no breach
abbrev pub Begins : Option BreachKind → Side → Result Unit Breach → Side → Type 0
Begins found old (Ok u) new =
    (found ≡ None) × (new ≡ record old { phase = InHandler; steps = old.steps + 1 })
Begins found old (Err b) new =
    (found ≡ Some b.kind) × (b.core ≡ old.frames.core) × (b.step ≡ old.steps)
