use Rattle.xt_use_shadow.proofs.Making.{settled_regs, settled_replies, started_ready, started_settled}
use Rattle.xt_use_shadow.proofs.cores.UseShadow.prepare.Goals as goal

pub returns-then-is_ready-clause-started : goal.returns-then-is_ready-clause-started
returns-then-is_ready-clause-started c = λ code i len r tested ok at quiet goes.
    started_ready code c.args.self.now r i len (c.is_ready.ensures c.if-is_ready.true i tested) ok at quiet goes

pub returns-clause-started : goal.returns-clause-started
returns-clause-started c = λ code i len r tested ok at quiet goes. started_settled code c.args.self.now c.settle.new.self r c.settle.ensures

pub returns-clause-regs : goal.returns-clause-regs
returns-clause-regs c = settled_regs c.args.self.now c.settle.new.self c.settle.ensures

pub returns-clause-replies : goal.returns-clause-replies
returns-clause-replies c = settled_replies c.args.self.now c.settle.new.self c.settle.ensures
