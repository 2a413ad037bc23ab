use Rattle.xt_simulation.proofs.Opens.{shadows_open}
use Rattle.xt_simulation.proofs.use_laws.shadows_open.Goals as goal

pub returns : goal.returns
returns c = shadows_open
