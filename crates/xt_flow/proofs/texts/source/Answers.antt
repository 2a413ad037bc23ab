use Rattle.xt_image.proofs.Placement.{well_formed_placed}
use Rattle.xt_flow.proofs.texts.source.Goals as goal

pub text_of-requires : goal.text_of-requires
text_of-requires c = (well_formed_placed c.args.image.now c.requires).placed
