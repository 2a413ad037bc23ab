-- The lines of records, one by one.
use Rattle.std.proofs.Common.{◌≡◌, ℕ, ◌+◌, ◌≤◌, arith, List, [], ◌∷◌, ◌++◌, Some, length, refl, ap, sym, ◌∙◌, append-nil}
use Rattle.xt_trace.specs.declared.record.StepRecord.{StepRecord}
use Rattle.xt_trace.specs.Left.{first_of, rest_of}
use Rattle.xt_trace.specs.Lines.{line_text}
use Rattle.xt_runs.specs.Traces.{lines_from}

-- the record that was given, and those that are left
given : (xs ys : List StepRecord) (r : StepRecord) → Some r ≡ first_of xs → ys ≡ rest_of xs → xs ≡ r ∷ ys
given [] ys r first rest = absurd (cc)
given (x ∷ xs) ys r first rest = let same : r ≡ x = cc in ap (λ l. x ∷ l) (sym rest) ∙ ap (λ z. z ∷ ys) (sym same)

-- its line stands before theirs, behind what was written and what is gathered
pub line_first : (whole done piece : List ℕ) (core step : ℕ) (xs ys : List StepRecord) (r : StepRecord) → Some r ≡ first_of xs → ys ≡ rest_of xs
    → whole ≡ done ++ (piece ++ lines_from core step xs) → whole ≡ done ++ (piece ++ (line_text core step r ++ lines_from core (step + 1) ys))
line_first whole done piece core step xs ys r first rest so_far = so_far ∙ ap (λ l. done ++ (piece ++ lines_from core step l)) (given xs ys r first rest)

-- one record less is left
pub one_less : (xs ys : List StepRecord) (r : StepRecord) → Some r ≡ first_of xs → ys ≡ rest_of xs → length xs ≡ length ys + 1
one_less xs ys r first rest = ap length (given xs ys r first rest) ∙ omega arith

no_text : (core step : ℕ) (xs : List StepRecord) → length xs ≡ 0 → lines_from core step xs ≡ []
no_text core step [] none = refl
no_text core step (x ∷ xs) none = absurd (omega (arith, none))

-- after the last record
pub no_line_left : (core step k n : ℕ) (xs : List StepRecord) (whole done piece : List ℕ) → length xs + k ≡ n → n ≤ k → whole ≡ done ++ (piece ++ lines_from core step xs)
    → whole ≡ done ++ piece
no_line_left core step k n xs whole done piece left all so_far =
    so_far ∙ ap (λ l. done ++ (piece ++ l)) (no_text core step xs (omega (arith, left, all))) ∙ ap (λ l. done ++ l) (append-nil piece)
