use Rattle.xt_simulation.proofs.UseWhole.{have_numbers}
use Rattle.xt_simulation.proofs.filling_laws.registers_have_numbers.Goals as goal

pub returns : goal.returns
returns c = have_numbers
