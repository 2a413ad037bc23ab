use Rattle.std.proofs.Common.{sym, ◌∙◌}
use Rattle.xt_exec.proofs.Clear.{ahead_clear}
use Rattle.xt_exec.proofs.regs.Regs.is_clear.Goals as goal

pub returns-in-None : goal.returns-in-None
returns-in-None g c = λ h q. ahead_clear (g.W.Windows.start c.args.self.now.win) (g.W.Windows.base c.args.self.now.win) q (sym c.check.ensures.value ∙ c.in-None.is)
