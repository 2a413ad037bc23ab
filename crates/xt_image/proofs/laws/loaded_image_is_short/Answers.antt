use Rattle.xt_image.proofs.Capacity.{is_short}
use Rattle.xt_image.proofs.laws.loaded_image_is_short.Goals as goal

pub returns : goal.returns
returns c = is_short
