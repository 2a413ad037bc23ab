-- The lines of turns, one by one.
use Rattle.std.proofs.Common.{◌≡◌, ℕ, ◌+◌, ◌≤◌, arith, List, [], ◌∷◌, ◌++◌, length, Bool, true, false, Option, Some, None, Result, Ok, Err, if◌then◌else◌, refl, sym, ap, ◌∙◌, subst, append-nil}
use Rattle.std.specs.List.{concat}
use Rattle.xt_trace.specs.declared.run.Run.{Run}
use Rattle.xt_image.specs.declared.image.Image.{Image}
use Rattle.xt_events.specs.Lines.{Gives, LinesState, filtered_between, lines_in}
use Rattle.xt_events.specs.declared.filter.Filter.{Filter}
use Rattle.xt_debug.specs.FrameNotes.{GivesLine, noted}
use Rattle.xt_command_line.specs.declared.command.Turns.{Turns}
use Rattle.xt_tools.specs.Commands.{filter_of, trace_text}

-- the line that was given stands before those that are left
pub given_line : {E : Type 0} (r : Result (Option (List ℕ)) E) (o : Option (List ℕ)) (text : List ℕ) (old new : List (List ℕ)) → r ≡ Ok o → o ≡ Some text → GivesLine r old new
    → old ≡ text ∷ new
given_line {E} r o text old new was is gives =
    let F : Result (Option (List ℕ)) E → Type 0 = λ x. GivesLine x old new in subst F (was ∙ ap (λ (x : Option (List ℕ)). let y : Result (Option (List ℕ)) E = Ok x in y) is) gives

no_text : (lines : List (List ℕ)) → length lines ≡ 0 → concat lines ≡ []
no_text [] none = refl
no_text (l ∷ lines) none = absurd (omega (arith, none))

-- after the last line
pub no_line_left : (lines : List (List ℕ)) (k n : ℕ) (whole done piece : List ℕ) → length lines + k ≡ n → n ≤ k → whole ≡ done ++ (piece ++ concat lines) → whole ≡ done ++ piece
no_line_left lines k n whole done piece left all so_far =
    so_far ∙ ap (λ l. done ++ (piece ++ l)) (no_text lines (omega (arith, left, all))) ∙ ap (λ l. done ++ l) (append-nil piece)

-- the lines of turns are given as lines of any kind are
pub gives_line : {E : Type 0} (r : Result (Option (List ℕ)) E) (old new : LinesState) → Gives r old new → GivesLine r (lines_in old) (lines_in new)
gives_line (Ok None) old new h = h.0
gives_line (Ok (Some text)) old new h = h
gives_line (Err e) old new h = tt

-- ---- the lines that `trace` prints
pub traced_with_frames : (t : Turns) (f : Filter) (image : Image) (r : Run) (lines : List (List ℕ)) → t.frames ≡ true → f ≡ filter_of t → lines ≡ noted image r t.from (filtered_between f image r t.from t.to) → concat lines ≡ trace_text t image r
traced_with_frames t f image r lines asked f_is lines_is =
    let plain = filtered_between (filter_of t) image r t.from t.to in
    ap concat lines_is
    ∙ (ap (λ (g : Filter). concat (noted image r t.from (filtered_between g image r t.from t.to))) f_is
    ∙ sym (ap (λ (b : Bool). concat (if b then noted image r t.from plain else plain)) asked))

pub traced_alone : (t : Turns) (f : Filter) (image : Image) (r : Run) (lines : List (List ℕ)) → t.frames ≡ false → f ≡ filter_of t → lines ≡ filtered_between f image r t.from t.to → concat lines ≡ trace_text t image r
traced_alone t f image r lines asked f_is lines_is =
    let plain = filtered_between (filter_of t) image r t.from t.to in
    ap concat lines_is
    ∙ (ap (λ (g : Filter). concat (filtered_between g image r t.from t.to)) f_is
    ∙ sym (ap (λ (b : Bool). concat (if b then noted image r t.from plain else plain)) asked))
