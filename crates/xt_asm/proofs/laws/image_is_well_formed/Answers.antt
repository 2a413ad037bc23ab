use Rattle.xt_asm.proofs.WellFormed.{well_formed}
use Rattle.xt_asm.proofs.laws.image_is_well_formed.Goals as goal

pub returns : goal.returns
returns c = well_formed
