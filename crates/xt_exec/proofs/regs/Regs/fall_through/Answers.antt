use Rattle.std.proofs.Common.{ap}
use Rattle.xt_special.specs.Control.{Control}
use Rattle.xt_exec.specs.State.{State}
use Rattle.xt_exec.proofs.regs.Regs.fall_through.Goals as goal

pub returns : goal.returns
returns g c =
    let s = c.args.self.now in
    let state : Control → State = λ k. record { regs = g.W.Windows.regs s.win; base = g.W.Windows.base s.win; start = g.W.Windows.start s.win; control = k } in
    ap state (c.falls-self.ensures s.waiting)
