-- The cores of an order, and the record with a number.
use Rattle.std.proofs.Common.{◌≡◌, ℕ, zero, suc, ◌+◌, ◌<◌, List, [], ◌∷◌, drop, length, refl, ap, ◌∙◌, arith}
use Rattle.std.specs.Prelude.{slice_get, slice_index_or}
use Rattle.xt_trace.specs.declared.record.StepRecord.{StepRecord}
use Rattle.xt_trace.specs.Left.{first_of, rest_of}
use Rattle.xt_search.specs.Worlds.{IsOrder}

pub all_cores : (l : List ℕ) → IsOrder l → (k d : ℕ) → k < length l → slice_index_or l k d < 2
all_cores [] h k d less = absurd (omega (arith, less))
all_cores (c ∷ cs) h zero d less = h.0
all_cores (c ∷ cs) h (suc k) d less = all_cores cs h.1 k d (omega (arith, less))

pub first_left : (k : ℕ) (xs : List StepRecord) → first_of (drop k xs) ≡ slice_get xs k
first_left zero [] = refl
first_left zero (x ∷ xs) = refl
first_left (suc k) [] = refl
first_left (suc k) (x ∷ xs) = first_left k xs

rest_left : (k : ℕ) (xs : List StepRecord) → rest_of (drop k xs) ≡ drop (suc k) xs
rest_left zero [] = refl
rest_left zero (x ∷ xs) = refl
rest_left (suc k) [] = refl
rest_left (suc k) (x ∷ xs) = rest_left k xs

pub rest_past : (k : ℕ) (xs : List StepRecord) → rest_of (drop k xs) ≡ drop (k + 1) xs
rest_past k xs = rest_left k xs ∙ ap (λ (n : ℕ). drop n xs) (let e : suc k ≡ k + 1 = omega arith in e)
