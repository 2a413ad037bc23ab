use Rattle.xt_simulation.proofs.Images.{stretches_of_images}
use Rattle.xt_simulation.proofs.laws.stretches_move_one_frame.Goals as goal

pub returns : goal.returns
returns c = stretches_of_images
