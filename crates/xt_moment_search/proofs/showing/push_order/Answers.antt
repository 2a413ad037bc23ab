use Rattle.std.proofs.Common.{◌++◌, List, ℕ, ap, ◌∙◌}
use Rattle.xt_moment_search.proofs.ShownLines.{lines_are}
use Rattle.xt_moment_search.proofs.showing.push_order.Goals as goal

pub returns : goal.returns
returns c =
    let ground = c.in_ok-ground.ground in
    c.in_ok-push_moves.ensures
    ∙ ap (λ (l : List ℕ). c.args.out.now.items ++ l)
    (lines_are c.args.image.now c.args.options.now c.args.order.now ground.code
    ground.opening.contents c.open-first.result c.in_ok-ground.ensures.code
    c.in_ok-ground.ensures.opening c.open-first.ensures)
