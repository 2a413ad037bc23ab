use Rattle.std.proofs.Common.{ap, ◌∙◌}
use Rattle.xt_window.proofs.Fronts.{back_same}
use Rattle.xt_window.proofs.front.FrontFileWindows.set_base.Goals as goal

pub returns-clause-regs : goal.returns-clause-regs
returns-clause-regs g c =
    back_same c.write_back.new.ring c.load.new.front c.args.b 16 c.load.ensures ∙ c.write_back.ensures ∙ ap (λ s. s.regs) c.self.view_is
