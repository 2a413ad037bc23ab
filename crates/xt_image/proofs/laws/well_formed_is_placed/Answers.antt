use Rattle.xt_image.proofs.Placement.{well_formed_placed}
use Rattle.xt_image.proofs.laws.well_formed_is_placed.Goals as goal

pub returns : goal.returns
returns c = well_formed_placed
