use Rattle.std.proofs.Common.{arith}
use Rattle.xt_codec.proofs.Bytes.{answered_wide, answered_narrow}
use Rattle.xt_codec.proofs.encode.Goals as goal

pub returns-then-w-lt8-clause-spelled : goal.returns-then-w-lt8-clause-spelled
returns-then-w-lt8-clause-spelled c =
    answered_wide c.args.i.now c.in-Some.w c.in-Some.ensures.1 c.in-Some.ensures.0 (omega arith)

pub returns-else-w-lt8-clause-spelled : goal.returns-else-w-lt8-clause-spelled
returns-else-w-lt8-clause-spelled c =
    answered_narrow c.args.i.now c.in-Some.w c.in-Some.ensures.1 c.in-Some.ensures.0 (omega arith)
