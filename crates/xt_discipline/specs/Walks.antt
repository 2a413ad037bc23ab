-- Carries a proof; nothing that a reader must believe.
-- The walk over the records of both cores: what it knows is what the
-- definition of the verdict knows.
use Rattle.std.specs.Prelude.{◌≡◌, ℕ, zero, suc, ◌+◌, Bool, Result, Ok, Err, List, [], ◌∷◌, length}
use Rattle.std.specs.Prelude.{drop}
use Rattle.xt_map.specs.Memory.{constant_byte}
use Rattle.xt_map.specs.declared.segment.Segment.{Segment}
use Rattle.xt_trace.specs.declared.options.Options.{Options}
use Rattle.xt_trace.specs.declared.record.StepRecord.{StepRecord}
use Rattle.xt_frames.specs.declared.kinds.Judged.{Judged}
use Rattle.xt_frames.specs.declared.kinds.Judged.TheVariants.{Whole, Broken}
use Rattle.xt_frames.specs.Breaches.{Bounds}
use Rattle.xt_frames.specs.declared.kinds.HandlerPhase.{HandlerPhase}
use Rattle.xt_frames.specs.Judging.{Standing, seen_record}
use Rattle.xt_frames.specs.Verdict.{Known, judgement, opening_known, verdict_on}
use Rattle.xt_frames.specs.Walked.{opening_walked}
use Rattle.xt_discipline.specs.declared.bytes.Held.{Held}
use Rattle.xt_discipline.specs.declared.side.Side.{Side}
use Rattle.xt_discipline.specs.declared.walk.Walk.{Walk}
use Rattle.xt_discipline.specs.ByteMarks.{KnowsOf}
use Rattle.xt_discipline.specs.Sides.{IsSeen, IsSide, live_in, standing_of}

-- a core that the definition knows so
pub record IsKnown (s : Side) (core : ℕ) (b : Bounds) (st : Standing) (steps : ℕ) : Type 0 where
  pub side : IsSide s
  pub core_is : s.core ≡ core
  pub bounds_are : s.frames.bounds ≡ b
  pub standing_is : standing_of s ≡ st
  pub steps_are : s.steps ≡ steps

pub record Knows (w : Walk) (b0 b1 : Bounds) (k : Known) : Type 0 where
  pub zero : IsKnown w.side0 0 b0 k.standing0 k.steps0
  pub one : IsKnown w.side1 1 b1 k.standing1 k.steps1
  pub len : length w.marks.items ≡ 0x52000
  pub marks : KnowsOf 0 w.marks.items (live_in w.side0.frames) (live_in w.side1.frames) k.stale

-- what a core's next record comes to
abbrev pub Turns :
    (ℕ → ℕ) → Side → Side → List Held → (ℕ → Bool) → (ℕ → Bool) → List StepRecord → List StepRecord
    → Result Unit Judged → Type 0
Turns code old new marks others stale [] left (Err j) = j ≡ Whole
Turns code old new marks others stale (x ∷ xs) left (Ok u) =
    (left ≡ xs)
    × IsSeen old new marks others stale
    (seen_record code old.frames.bounds (standing_of old) others stale x) (Ok u)
Turns code old new marks others stale (x ∷ xs) left (Err (Broken b)) =
    IsSeen old new marks others stale
    (seen_record code old.frames.bounds (standing_of old) others stale x)
    (Err b)
Turns code old new marks others stale _ left _ = ⊥

-- and in the words of the definition: `xs` and `ys` are the records that were left before, and
-- `xs'` and `ys'` those after it
abbrev pub IsTurned :
    (ℕ → ℕ) → Bounds → Bounds → ℕ → Known → List StepRecord → List StepRecord → Walk
    → List StepRecord → List StepRecord → Result Unit Judged → Type 0
IsTurned code b0 b1 core k xs ys new xs' ys' (Ok u) =
    (n : Known) × Knows new b0 b1 n × (n.steps0 + n.steps1 ≡ suc (k.steps0 + k.steps1))
    × (constant_byte new.code ≡ code)
    × ((cs : List ℕ) → judgement code b0 b1 (core ∷ cs) xs ys k ≡ judgement code b0 b1 cs xs' ys' n)
IsTurned code b0 b1 core k xs ys new xs' ys' (Err j) =
    (cs : List ℕ) → j ≡ verdict_on (judgement code b0 b1 (core ∷ cs) xs ys k).breach

-- the phase of a core before its next record
abbrev pub phase_in : ℕ → Walk → HandlerPhase
phase_in zero w = w.side0.phase
phase_in (suc core) w = w.side1.phase

-- both cores as they open
pub record IsOpened (w : Walk) (code : List Segment) (entry : ℕ) (o : Options) : Type 0 where
  pub code_is : w.code ≡ code
  pub steps0 : w.side0.steps ≡ 0
  pub steps1 : w.side1.steps ≡ 0
  pub knows : Knows w (opening_walked 0 entry o).bounds (opening_walked 1 o.entry1 o).bounds
      (opening_known (opening_walked 0 entry o).state (opening_walked 1 o.entry1 o).state)

-- so many turns of a schedule are walked, past which these records are left
pub record Reaches
    (code : ℕ → ℕ) (b0 b1 : Bounds) (k : Known) (schedule : List ℕ) (xs ys : List StepRecord)
    (w : Walk) (turns : ℕ) (xs' ys' : List StepRecord) : Type 0 where
  pub known : Known
  pub knows : Knows w b0 b1 known
  pub steps : known.steps0 + known.steps1 ≡ k.steps0 + k.steps1 + turns
  pub code_is : constant_byte w.code ≡ code
  pub judged : judgement code b0 b1 schedule xs ys k
      ≡ judgement code b0 b1 (drop turns schedule) xs' ys' known

-- what is judged of a run whose walk ends so
abbrev pub found_on : Result Unit Judged → Judged
found_on (Ok u) = Whole
found_on (Err j) = j
