use Rattle.xt_machine.proofs.Images.{own_list}
use Rattle.xt_machine.proofs.laws.run_is_that_of_its_schedule.Goals as goal

pub returns : goal.returns
returns c image r h = own_list image r h
