use Rattle.xt_handlers.proofs.Runs.{stands_first}
use Rattle.xt_handlers.proofs.Turning.{turns, done}
use Rattle.xt_handlers.proofs.Changed.{others_stay}
use Rattle.xt_handlers.proofs.turns.handler_turns.Goals as goal

pub returns-clause-begins : goal.returns-clause-begins
returns-clause-begins c = stands_first

pub returns-clause-turns : goal.returns-clause-turns
returns-clause-turns c = turns

pub returns-clause-closes : goal.returns-clause-closes
returns-clause-closes c = done

pub returns-clause-others : goal.returns-clause-others
returns-clause-others c = others_stay
