-- The requirements of a list, one by one.
use Rattle.std.proofs.Common.{◌≡◌, ◌<◌, ◌≤◌, ◌+◌, ℕ, List, ◌∷◌, length, drop, get_or, Option, None, refl, sym, subst}
use Rattle.std.proofs.lemmas.List.{drop_all, drop_more}
use Rattle.xt_image.specs.declared.image.Image.{Image}
use Rattle.xt_trace.specs.declared.run.Run.{Run}
use Rattle.xt_command_line.specs.declared.requirements.Requirement.{Requirement}
use Rattle.xt_command_line.specs.declared.secrets.SecretOptions.{SecretOptions}
use Rattle.xt_runs.specs.Requirements.{IsThisOr, IsUnmetBy, IsUnmetIn}

-- what a requirement says, before those that are left
pub one_more : (s : Option SecretOptions) (image : Image) (run : Run) (list : List Requirement) (k : ℕ) (r : Requirement) (this line : Option (List ℕ)) → k < length list → r ≡ get_or list k r
    → IsUnmetBy s r image run this → IsThisOr this (IsUnmetIn s (drop (k + 1) list) image run) line → IsUnmetIn s (drop k list) image run line
one_more s image run list k r this line here is says rest =
    let P : List Requirement → Type 0 = λ l. IsUnmetIn s l image run line in
    let Q : Requirement → Type 0 = λ x. IsUnmetIn s (x ∷ drop (k + 1) list) image run line in
    subst P (sym (drop_more list k r here)) (subst Q is (this, says, rest))

-- after the last one
pub none_left : (s : Option SecretOptions) (image : Image) (run : Run) (list : List Requirement) (k : ℕ) → length list ≤ k → IsUnmetIn s (drop k list) image run None
none_left s image run list k none =
    let P : List Requirement → Type 0 = λ l. IsUnmetIn s l image run None in subst P (sym (drop_all k list none)) refl
