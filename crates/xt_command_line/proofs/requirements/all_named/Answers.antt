use Rattle.std.proofs.Common.{ℕ, List, [], ◌∷◌, ◌++◌, Some, None, Bor, map, sym, ap, ◌∙◌, if◌then◌else◌}
use Rattle.std.proofs.lemmas.List.{at_drop_more}
use Rattle.xt_command_line.specs.Requirements.{with_requirement, all_from, is_among}
use Rattle.xt_command_line.proofs.RequirementTexts.{no_more}
use Rattle.xt_command_line.proofs.requirements.all_named.Goals as goal

pub returns-then-is_among : goal.returns-then-is_among
returns-then-is_among c =
    let list = c.loop-part.list.items in
    let among = ap (λ items. is_among c.in-Some.requirement items) (sym c.deref.ensures.value) ∙ sym c.is_among.ensures ∙ c.if-is_among.true in
    let refused = ap (with_requirement list) (sym c.requirement_of.ensures ∙ c.in-Some.is) ∙ ap (λ b. if b then None else Some (list ++ (c.in-Some.requirement ∷ []))) among in
    sym (
    sym c.loop-part.invariant
    ∙ at_drop_more (λ (parts : List (Bor (List ℕ))). all_from (Some list) (map (λ part. part.now) parts)) c.args.parts.now c.loop-part.part-index _ c.loop-part-test.true
    ∙ no_more list _ _ refused
    )

pub returns-in-None : goal.returns-in-None
returns-in-None c =
    let list = c.loop-part.list.items in
    sym (
    sym c.loop-part.invariant
    ∙ at_drop_more (λ (parts : List (Bor (List ℕ))). all_from (Some list) (map (λ part. part.now) parts)) c.args.parts.now c.loop-part.part-index _ c.loop-part-test.true
    ∙ no_more list _ _ (ap (with_requirement list) (sym c.requirement_of.ensures ∙ c.in-None.is))
    )
