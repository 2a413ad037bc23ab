use Rattle.std.proofs.Common.{subst}
use Rattle.xt_moment_search.specs.Forgetting.{ForgetsSide}
use Rattle.xt_moment_search.specs.Sides.{KnownCore}
use Rattle.xt_moment_search.proofs.Leading.{forgets_at}
use Rattle.xt_moment_search.proofs.forgetting.forget.Goals as goal

pub returns : goal.returns
returns c =
    let g = c.args.ground.now in
    forgets_at g.opening.contents g.cleared.contents c.args.core c.requires c.args.at.now
    c.put.new.self c.without_specials-side.result c.forget_words.new.bytes c.put.ensures
    (subst (λ (k : KnownCore). ForgetsSide k c.without_specials-side.result) c.side.ensures
    c.without_specials-side.ensures)
    c.in_ok-forget_words.ensures
