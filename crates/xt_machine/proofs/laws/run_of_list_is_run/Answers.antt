use Rattle.xt_machine.proofs.Images.{list_is_run}
use Rattle.xt_machine.proofs.laws.run_of_list_is_run.Goals as goal

pub returns : goal.returns
returns c image o list valid = list_is_run image o list valid
