use Rattle.xt_image.proofs.Opened.{memory_is}
use Rattle.xt_image.proofs.laws.memory_of_image.Goals as goal

pub returns : goal.returns
returns c = memory_is
