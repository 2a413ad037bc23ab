use Rattle.std.proofs.Common.{◌∙◌}
use Rattle.xt_command_line.proofs.Hexadecimal.{with_prefix, without_prefix}
use Rattle.xt_command_line.proofs.numbers.number.Goals as goal

pub returns-in-Some : goal.returns-in-Some
returns-in-Some c = c.hexadecimal.ensures ∙ with_prefix c.args.text.now c.in-Some.digits.now c.in-Some.ensures.cases

pub returns-in-None : goal.returns-in-None
returns-in-None c = c.limited_number.ensures.number ∙ without_prefix c.args.text.now c.in-None.ensures.cases
