-- Carries a proof; nothing that a reader must believe.
-- What a turn of the walk takes, and its end where a core has no record left.
use Rattle.std.specs.Prelude.{◌≡◌, ℕ, zero, suc, List, [], ◌∷◌}
use Rattle.xt_trace.specs.declared.record.StepRecord.{StepRecord}
use Rattle.xt_discipline.specs.declared.walk.Walk.{Walk}

-- the records of this core
abbrev pub records_left : ℕ → List StepRecord → List StepRecord → List StepRecord
records_left zero xs ys = xs
records_left (suc core) xs ys = ys

-- no record of the core was left, and neither core changed
pub record HasEnded (core : ℕ) (old new : Walk) (xs ys : List StepRecord) : Type 0 where
  pub none_left : records_left core xs ys ≡ []
  pub same0 : new.side0 ≡ old.side0
  pub same1 : new.side1 ≡ old.side1

-- a record was the first of these, and those that are left come after it
abbrev pub IsFirst : List StepRecord → List StepRecord → Type 0
IsFirst xs left = (x : StepRecord) × (xs ≡ x ∷ left)

-- the first record of the core was taken, and none of the other core
abbrev pub IsTaken :
    ℕ → List StepRecord → List StepRecord → List StepRecord → List StepRecord → Type 0
IsTaken zero xs ys xs' ys' = IsFirst xs xs' × (ys' ≡ ys)
IsTaken (suc core) xs ys xs' ys' = IsFirst ys ys' × (xs' ≡ xs)
