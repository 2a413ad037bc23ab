use Rattle.std.proofs.Common.{slice_set, ap, ◌∙◌, arith}
use Rattle.xt_window.specs.Ring.{place}
use Rattle.xt_window.proofs.Fronts.{back_set}
use Rattle.xt_window.proofs.front.FrontFileWindows.write.Goals as goal

pub returns-clause-regs : goal.returns-clause-regs
returns-clause-regs g c =
    back_set c.self.inside.ring c.self.inside.front c.self.inside.base 16 c.args.i c.args.v (omega arith) (omega arith) (omega arith)
    ∙ ap (λ s. slice_set s.regs (place s.base c.args.i) c.args.v) c.self.view_is
