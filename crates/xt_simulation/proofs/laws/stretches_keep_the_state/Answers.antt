use Rattle.xt_simulation.proofs.Stretched.{stretches_begin, stretches_go_on, stretches_end}
use Rattle.xt_simulation.proofs.laws.stretches_keep_the_state.Goals as goal

pub returns-clause-begins : goal.returns-clause-begins
returns-clause-begins c = stretches_begin

pub returns-clause-goes_on : goal.returns-clause-goes_on
returns-clause-goes_on c = stretches_go_on

pub returns-clause-ends : goal.returns-clause-ends
returns-clause-ends c = stretches_end
