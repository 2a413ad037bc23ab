use Rattle.xt_command_line.proofs.Rules.{accepts}
use Rattle.xt_command_line.proofs.laws.valid_options_are_accepted.Goals as goal

pub returns : goal.returns
returns c = accepts
