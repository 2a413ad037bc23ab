-- The requirements that texts list.
use Rattle.std.proofs.Common.{◌≡◌, false, List, [], ◌∷◌, ◌++◌, Some, None, refl}
use Rattle.clap.specs.Words.{Text}
use Rattle.xt_command_line.specs.Requirements.{with_requirement, all_from, is_among, requirement_of}
use Rattle.xt_command_line.specs.declared.requirements.Requirement.{Requirement}

-- after a text that adds none
none_from : (texts : List Text) → all_from None texts ≡ None
none_from [] = refl
none_from (text ∷ texts) = refl

pub no_more : (list : List Requirement) (text : Text) (texts : List Text) → with_requirement list (requirement_of text) ≡ None → all_from (Some list) (text ∷ texts) ≡ None
no_more list text texts none = rw none (none_from texts)

pub one_more : (list : List Requirement) (text : Text) (texts : List Text) (r : Requirement) → requirement_of text ≡ Some r → is_among r list ≡ false
    → all_from (Some list) (text ∷ texts) ≡ all_from (Some (list ++ (r ∷ []))) texts
one_more list text texts r is new = rw (is, new) refl
