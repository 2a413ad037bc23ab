use Rattle.xt_handlers.proofs.Turning.{spared}
use Rattle.xt_handlers.proofs.Places.{spares_from}
use Rattle.xt_handlers.proofs.turns.another_core_writes.Goals as goal

pub returns-clause-spared : goal.returns-clause-spared
returns-clause-spared c = spared

pub returns-clause-elsewhere : goal.returns-clause-elsewhere
returns-clause-elsewhere c = spares_from
