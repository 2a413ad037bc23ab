use Rattle.std.proofs.Common.{refl}
use Rattle.xt_simulation.proofs.filling_laws.owb_is_the_fillings.Goals as goal

pub returns : goal.returns
returns c mask n rec = (refl, refl)
