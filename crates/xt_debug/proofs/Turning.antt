-- The lines of turns that a replay goes over, one after another.
use Rattle.std.proofs.Common.{◌≡◌, ℕ, suc, ◌+◌, ◌-◌, ◌≤◌, min, List, ◌++◌, length, ap, ◌∙◌, arith, append-nil}
use Rattle.std.specs.List.{concat}
use Rattle.xt_trace.specs.declared.run.Run.{Run}
use Rattle.xt_image.specs.declared.image.Image.{Image}
use Rattle.xt_core.specs.Positions.{schedule_in}
use Rattle.xt_events.specs.Filters.{everything}
use Rattle.xt_events.specs.Lines.{line_at, lines_from, turns_text}
use Rattle.xt_events.proofs.Following.{lines_start}

-- the text of so many turns from a position on
abbrev pub text_from : Image → Run → ℕ → ℕ → List ℕ
text_from image r p n = concat (lines_from everything image r p n)

pub one_line : (image : Image) (r : Run) (p n m : ℕ) → n ≡ suc m → text_from image r p n ≡ line_at everything image r p ++ text_from image r (p + 1) m
one_line image r p n m e =
    let next : suc p ≡ p + 1 = omega arith in
    ap (text_from image r p) e ∙ ap (λ (q : ℕ). line_at everything image r p ++ text_from image r q m) next

pub no_line : (image : Image) (r : Run) (p n : ℕ) (text : List ℕ) → n ≡ 0 → text ++ text_from image r p n ≡ text
no_line image r p n text e = ap (λ (k : ℕ). text ++ text_from image r p k) e ∙ append-nil text

pub all_lines : (image : Image) (r : Run) (from to : ℕ) → from ≤ to → to ≤ length (schedule_in r) → text_from image r from (to - from) ≡ turns_text image r from to
all_lines image r from to le within =
    let end : to ≡ min to (length (schedule_in r)) = omega (arith, within) in
    let start : from ≡ min from to = omega (arith, le) in
    ap concat (lines_start everything image r from to to from end start)
