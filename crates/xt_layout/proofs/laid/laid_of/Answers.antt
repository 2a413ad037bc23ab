use Rattle.std.proofs.Common.{arith}
use Rattle.xt_layout.proofs.Reaching.{lines_in_weight}
use Rattle.xt_layout.proofs.laid.laid_of.Goals as goal

pub pool_sizes-requires : goal.pool_sizes-requires
pool_sizes-requires c = omega (arith, c.requires.few, lines_in_weight c.args.lines.now, c.requires.small)
