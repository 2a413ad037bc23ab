use Rattle.xt_secret_walk.proofs.Knowing.{whole_row}
use Rattle.xt_secret_walk.proofs.seen.is_row_known.Goals as goal

pub returns-then-y-eq-ALL_BITS : goal.returns-then-y-eq-ALL_BITS
returns-then-y-eq-ALL_BITS c = whole_row c.args.insn c.args.x c.args.y c.if-x-eq-ALL_BITS.true c.if-y-eq-ALL_BITS.true
