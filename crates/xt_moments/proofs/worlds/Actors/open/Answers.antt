use Rattle.xt_moments.proofs.Opens.{opens}
use Rattle.xt_moments.proofs.worlds.Actors.open.Goals as goal

pub returns : goal.returns
returns c =
    opens c.args.image.now c.args.options.now c.open.result c.open-2.result c.new.result
    c.open.ensures
    c.open-2.ensures c.new.ensures
