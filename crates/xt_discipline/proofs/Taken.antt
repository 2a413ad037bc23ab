-- What a turn takes from the records of both cores.
use Rattle.std.proofs.Common.{◌≡◌, ℕ, Result, Ok, Err, OnOk, List, [], ◌∷◌, Option, Some, None, refl, sym, ap, subst}
use Rattle.xt_trace.specs.declared.record.StepRecord.{StepRecord}
use Rattle.xt_trace.specs.Left.{first_of, rest_of}
use Rattle.xt_frames.specs.declared.kinds.Judged.{Judged}
use Rattle.xt_discipline.specs.Ended.{IsFirst, IsTaken}

abbrev IsSomething : Option StepRecord → Type 0
IsSomething None = ⊥
IsSomething (Some x) = Unit {0}

pub first_is : (xs left : List StepRecord) (x : StepRecord) → Some x ≡ first_of xs → left ≡ rest_of xs → IsFirst xs left
first_is [] left x some rest = absurd (subst IsSomething some tt)
first_is (y ∷ ys) left x some rest = (y, ap (λ (l : List StepRecord). y ∷ l) (sym rest))

pub taken_zero : (core : ℕ) (xs ys left : List StepRecord) (r : Result Unit Judged) → core ≡ 0 → OnOk r (IsFirst xs left) → OnOk r (IsTaken core xs ys left ys)
taken_zero core xs ys left (Ok u) is h = subst (λ (c : ℕ). IsTaken c xs ys left ys) (sym is) (h, refl)
taken_zero core xs ys left (Err j) is h = tt

pub taken_one : (core : ℕ) (xs ys left : List StepRecord) (r : Result Unit Judged) → core ≡ 1 → OnOk r (IsFirst ys left) → OnOk r (IsTaken core xs ys xs left)
taken_one core xs ys left (Ok u) is h = subst (λ (c : ℕ). IsTaken c xs ys xs left) (sym is) (h, refl)
taken_one core xs ys left (Err j) is h = tt
