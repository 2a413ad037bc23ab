-- One label more in front of those whose places are known.
use Rattle.std.proofs.Common.{◌≡◌, ℕ, Bool, true, false, cond, List, ◌∷◌, Option, Some, sym, ◌∙◌, ap}
use Rattle.std.specs.Cmp.Lexicographic.{slice_cmp, texts_ties}
use Rattle.std.specs.Ordering.{nat_cmp, eq_by_cmp}
use Rattle.std.specs.Prelude.{slice_get}
use Rattle.std.specs.Str.{bytes_eq}
use Rattle.xt_lex.specs.declared.labels.Label.{Label}
use Rattle.xt_lex.specs.Labels.{first_label, label_at}

chosen : (b : Bool) (labels : List Label) (place : ℕ) (before : Option ℕ) (x : Label) (rest : Option Label) → slice_get labels place ≡ Some x → label_at labels before ≡ rest → label_at labels (cond b (Some place) before) ≡ cond b (Some x) rest
chosen true labels place before x rest here there = here
chosen false labels place before x rest here there = there

-- where a label was put at its place, the first label of each name is found
pub put_in_front : (labels : List Label) (place : ℕ) (before after : Option ℕ) (x : Label) (q : List ℕ) (xs : List Label)
    → slice_get labels place ≡ Some x → label_at labels before ≡ first_label q xs → after ≡ cond (eq_by_cmp (slice_cmp nat_cmp) x.name q) (Some place) before
    → label_at labels after ≡ first_label q (x ∷ xs)
put_in_front labels place before after x q xs here there put =
    ap (label_at labels) (put ∙ ap (λ b. cond b (Some place) before) (sym (texts_ties x.name q)))
    ∙ chosen (bytes_eq x.name q) labels place before x (first_label q xs) here there
