use Rattle.xt_use_shadow.proofs.Making.{asked_none, asked_settled, asked_stays}
use Rattle.xt_use_shadow.proofs.cores.UseShadow.ask.Goals as goal

pub returns-then-not-self : goal.returns-then-not-self
returns-then-not-self c = asked_none c.args.bytes.now c.args.access c.args.self.now c.if-not-self.true

pub returns-then-spares : goal.returns-then-spares
returns-then-spares c = asked_stays c.args.bytes.now c.args.access c.args.self.now c.if-not-self.false (c.spares.ensures c.if-spares.true)

pub returns : goal.returns
returns c = asked_settled c.args.bytes.now c.args.access c.args.self.now c.settle.new.self c.settle.ensures
