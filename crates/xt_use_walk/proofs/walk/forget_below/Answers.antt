use Rattle.xt_use_walk.proofs.Openings.{below_bytes}
use Rattle.xt_use_walk.proofs.walk.forget_below.Goals as goal

pub forget-requires-clause-bytes : goal.forget-requires-clause-bytes
forget-requires-clause-bytes c = below_bytes c.args.stack c.requires.stack
