use Rattle.xt_asm.proofs.OneImage.{one_image}
use Rattle.xt_asm.proofs.laws.text_has_one_image.Goals as goal

pub returns : goal.returns
returns c = one_image
