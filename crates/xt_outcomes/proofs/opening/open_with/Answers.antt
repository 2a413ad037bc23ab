use Rattle.std.proofs.Common.{true, ◌∙◌}
use Rattle.xt_core.specs.Runs.{memory_of}
use Rattle.xt_outcomes.proofs.Opens.{opens}
use Rattle.xt_outcomes.proofs.opening.open_with.Goals as goal

pub returns : goal.returns
returns c =
    let image = c.args.image.now in
    let o = c.args.options.now in
    c.in_ok-world.ensures.spot (memory_of image o)
    ∙ opens image o true c.args.turns c.args.turns c.open-side0.result c.open-side1.result c.new.result c.open-side0.ensures c.open-side1.ensures c.new.ensures
