use Rattle.std.proofs.Common.{not, ◌&&◌, ◌∙◌}
use Rattle.xt_exec.specs.States.{state_of}
use Rattle.xt_timeless.proofs.Executing.{executed}
use Rattle.xt_timeless.proofs.using.is_executed.Goals as goal

pub returns : goal.returns
returns g c = λ code len e.
    let s = state_of g.W.Windows.regs g.W.Windows.base g.W.Windows.start c.args.r.now in
    c.are_all.ensures ∙ (λ i. c.is_calm.ensures i && (not s.control.waits && c.is_free.ensures i)) ∙ executed code c.args.insn len s c.requires.time e
