use Rattle.std.proofs.Common.{sym, ◌∙◌}
use Rattle.xt_tools.proofs.Scripted.{no_number, number_of_text}
use Rattle.xt_tools.proofs.opening.number_in.Goals as goal

pub returns-in-Ok : goal.returns-in-Ok
returns-in-Ok c = c.number.ensures ∙ sym (number_of_text c.args.line.now c.in-Ok.text.now c.in-Ok.ensures.cases.0 c.in-Ok.ensures.cases.1)

pub returns-in-Err : goal.returns-in-Err
returns-in-Err c = sym (no_number c.args.line.now c.in-Err.ensures.cases.0)
