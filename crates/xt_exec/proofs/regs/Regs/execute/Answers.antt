use Rattle.xt_map.specs.Memory.{constant_byte}
use Rattle.xt_exec.specs.States.{state_of}
use Rattle.xt_exec.proofs.Returns.{goes_back}
use Rattle.xt_exec.proofs.regs.Regs.execute.Goals as goal

pub carry_out-requires-clause-back : goal.carry_out-requires-clause-back
carry_out-requires-clause-back g c =
    goes_back (constant_byte c.args.code.now) c.args.i (state_of g.W.Windows.regs g.W.Windows.base g.W.Windows.start c.args.self.now) c.requires.legal _ c.outcome-outcome.ensures.formula
