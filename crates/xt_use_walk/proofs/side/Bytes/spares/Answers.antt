use Rattle.xt_use_walk.proofs.Spares.{known_spared}
use Rattle.xt_use_walk.proofs.side.Bytes.spares.Goals as goal

pub returns-then-knows : goal.returns-then-knows
returns-then-knows c = λ e. known_spared c.args.self.now c.args.access c.requires.served (c.knows.ensures c.if-knows.true)
