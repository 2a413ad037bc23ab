use Rattle.std.proofs.Common.{List, subst, ◌∙◌}
use Rattle.xt_map.specs.declared.segment.Segment.{Segment}
use Rattle.xt_discipline.specs.Walks.{IsOpened}
use Rattle.xt_profile.proofs.counting.pass_over.Goals as goal

pub returns-clause-walk : goal.returns-clause-walk
returns-clause-walk c =
    let walk = c.in_ok-walk.walk in
    let image = c.args.image.now in
    let options = c.args.run.now.options in
    subst (λ (s : List Segment). IsOpened walk s image.entry options)
    (c.in_ok-code.ensures ∙ c.as_slice.ensures) c.in_ok-walk.ensures
