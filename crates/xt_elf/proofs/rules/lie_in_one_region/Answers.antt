use Rattle.xt_elf.proofs.OneRegion.{one_region}
use Rattle.xt_elf.proofs.rules.lie_in_one_region.Goals as goal

pub returns : goal.returns
returns c = one_region c.args.first c.args.last c.region.result c.region-2.result c.is_one_region.result c.requires c.region.ensures c.region-2.ensures c.is_one_region.ensures
