use Rattle.std.proofs.Common.{◌∙◌, subst, sym}
use Rattle.xt_search.specs.Changed.{IsLean}
use Rattle.xt_core.specs.Runs.{memory_of, turns_of}
use Rattle.xt_outcomes.proofs.Opens.{opens}
use Rattle.xt_outcomes.proofs.opening.open.Goals as goal

pub returns-clause-spot : goal.returns-clause-spot
returns-clause-spot c =
    let image = c.args.image.now in
    let o = c.args.options.now in
    c.in_ok-world.ensures.spot (memory_of image o)
    ∙ opens image o c.args.timed (turns_of 0 o) (turns_of 1 o) c.open-side0.result c.open-side1.result c.new.result c.open-side0.ensures c.open-side1.ensures c.new.ensures

pub returns-clause-lean : goal.returns-clause-lean
returns-clause-lean c = subst (IsLean (memory_of c.args.image.now c.args.options.now)) (sym (c.in_ok-world.ensures.changes ∙ c.new.ensures)) (tt, tt)
