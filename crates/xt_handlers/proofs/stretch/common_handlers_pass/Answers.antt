use Rattle.xt_handlers.proofs.Passing.{common_handlers_pass}
use Rattle.xt_handlers.proofs.stretch.common_handlers_pass.Goals as goal

pub returns : goal.returns
returns c = common_handlers_pass
