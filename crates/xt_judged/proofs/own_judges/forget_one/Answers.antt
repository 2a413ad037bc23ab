use Rattle.xt_judged.proofs.FewerOrders.{forgot_none, forgot_one}
use Rattle.xt_judged.proofs.own_judges.forget_one.Goals as goal

pub returns-then-number-eq1 : goal.returns-then-number-eq1
returns-then-number-eq1 c = forgot_none c.args.frames.now

pub returns-then-not-bit : goal.returns-then-not-bit
returns-then-not-bit c = forgot_none c.args.frames.now

pub returns : goal.returns
returns c = forgot_one c.args.frames.now c.forget.new.self c.args.number c.if-number-eq1.false c.forget.ensures
