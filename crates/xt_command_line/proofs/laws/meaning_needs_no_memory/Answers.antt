use Rattle.xt_command_line.proofs.Rules.{meaning_needs_none}
use Rattle.xt_command_line.proofs.laws.meaning_needs_no_memory.Goals as goal

pub returns : goal.returns
returns c = meaning_needs_none
