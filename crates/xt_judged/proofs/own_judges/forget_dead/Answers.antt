use Rattle.xt_judged.proofs.FewerOrders.{forgot_none, forgot_then}
use Rattle.xt_judged.proofs.own_judges.forget_dead.Goals as goal

pub returns-then-not-matches : goal.returns-then-not-matches
returns-then-not-matches c = forgot_none c.args.frames.now

pub loop-i-init : goal.loop-i-init
loop-i-init c = forgot_none c.args.frames.now

pub loop-i-preserved : goal.loop-i-preserved
loop-i-preserved c = forgot_then c.args.frames.now c.loop-i.frames c.forget_one.new.frames c.loop-i.invariant c.forget_one.ensures
