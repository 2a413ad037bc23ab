use Rattle.xt_simulation.proofs.Whole.{keeps_level}
use Rattle.xt_simulation.proofs.StackSteps.{keeps_stack}
use Rattle.xt_simulation.proofs.laws.judged_steps_keep_the_relation.Goals as goal

pub returns-clause-relation : goal.returns-clause-relation
returns-clause-relation c = keeps_level

pub returns-clause-stack : goal.returns-clause-stack
returns-clause-stack c = keeps_stack
