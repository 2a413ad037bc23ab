use Rattle.std.proofs.Common.{arith}
use Rattle.xt_isa.proofs.Ranged.{spelled_at_in_range}
use Rattle.xt_codec.proofs.decode.Goals as goal

pub returns-then-matches-clause-fits : goal.returns-then-matches-clause-fits
returns-then-matches-clause-fits c =
    spelled_at_in_range c.args.b0 c.args.b1 c.args.b2 c.in-Some.insn (omega arith) (omega arith) (omega arith) c.in-Some.ensures

pub returns-else-matches-clause-fits : goal.returns-else-matches-clause-fits
returns-else-matches-clause-fits c =
    spelled_at_in_range c.args.b0 c.args.b1 c.args.b2 c.in-Some.insn (omega arith) (omega arith) (omega arith) c.in-Some.ensures
