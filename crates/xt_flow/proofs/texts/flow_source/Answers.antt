use Rattle.xt_image.proofs.Placement.{well_formed_placed}
use Rattle.xt_flow.proofs.Sourced.{source_is_right}
use Rattle.xt_flow.proofs.texts.flow_source.Goals as goal

pub visit_all-requires : goal.visit_all-requires
visit_all-requires c = well_formed_placed c.args.image.now c.requires

pub text_of-requires : goal.text_of-requires
text_of-requires c = (well_formed_placed c.args.image.now c.requires).placed

pub returns : goal.returns
returns c = source_is_right c.args.image.now c.args.vecbase c.args.entry1 c.args.roots.now c.in_ok-visited.visited c.text_of.result c.in_ok-visited.ensures c.text_of.ensures
