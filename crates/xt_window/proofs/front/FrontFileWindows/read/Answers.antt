use Rattle.std.proofs.Common.{sym, ap, ◌∙◌, arith}
use Rattle.xt_window.specs.Ring.{visible}
use Rattle.xt_window.proofs.Fronts.{back_at}
use Rattle.xt_window.proofs.front.FrontFileWindows.read.Goals as goal

pub returns : goal.returns
returns g c =
    sym (back_at c.self.inside.ring c.self.inside.front c.self.inside.base 16 c.args.i (omega arith) (omega arith) (omega arith))
    ∙ ap (λ s. visible s.regs s.base c.args.i) c.self.view_is
