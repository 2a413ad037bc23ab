use Rattle.xt_image.proofs.Placement.{well_formed_placed}
use Rattle.xt_flow.proofs.Words.{text_is_right}
use Rattle.xt_flow.proofs.listing.flow_listing.Goals as goal

pub visit_all-requires : goal.visit_all-requires
visit_all-requires c = well_formed_placed c.args.image.now c.requires

pub text_of-requires : goal.text_of-requires
text_of-requires c = (well_formed_placed c.args.image.now c.requires).placed

pub returns : goal.returns
returns c = text_is_right c.args.image.now c.args.vecbase c.args.entry1 c.args.roots.now c.in_ok-visited.visited.starts.items c.in_ok-visited.visited.reads.items c.text_of.result c.in_ok-visited.ensures c.text_of.ensures
