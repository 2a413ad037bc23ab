use Rattle.xt_simulation.proofs.ImageUses.{uses_are_so}
use Rattle.xt_simulation.proofs.use_laws.uses_are_so.Goals as goal

pub returns : goal.returns
returns c = uses_are_so
