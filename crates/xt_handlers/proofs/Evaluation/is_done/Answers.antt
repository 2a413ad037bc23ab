use Rattle.std.proofs.Common.{sym, arith}
use Rattle.xt_handlers.proofs.Stores.{none_marked, some_marked}
use Rattle.xt_handlers.proofs.Evaluation.is_done.Goals as goal

pub returns-then-flag : goal.returns-then-flag
returns-then-flag c = sym (some_marked c.args.n 0 c.loop-flag.flag-index c.args.self.now.wanted (omega arith) c.if-flag.true)

pub returns : goal.returns
returns c = sym (none_marked c.args.n 0 c.args.self.now.wanted (λ k h. c.loop-flag.invariant k (omega arith)))
