use Rattle.xt_moment_search.proofs.Learnt.{masks_open}
use Rattle.xt_moment_search.proofs.sides.opening_masks.Goals as goal

pub returns : goal.returns
returns c =
    let e = c.set_mask.ensures in
    masks_open c.whole-masks.result c.set_mask.new.masks c.whole-masks.ensures e.regs e.special e.threadptr e.long
