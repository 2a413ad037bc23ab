use Rattle.xt_command_line.proofs.Rules.{need_no_memory}
use Rattle.xt_command_line.proofs.laws.options_need_no_memory.Goals as goal

pub returns : goal.returns
returns c = need_no_memory
