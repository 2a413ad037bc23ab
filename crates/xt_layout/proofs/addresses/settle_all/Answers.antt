use Rattle.std.proofs.Common.{length}
use Rattle.xt_layout.proofs.Wording.{homes_more}
use Rattle.xt_layout.proofs.addresses.settle_all.Goals as goal

pub loop-i-preserved : goal.loop-i-preserved
loop-i-preserved c = homes_more c.loop-i.homes c.settle.new.homes c.args.words.now c.args.addresses.now c.loop-i.i (length c.args.homes.now) c.index-words-i.result
    c.loop-i-test.true c.requires.same c.index-words-i.is c.loop-i.invariant c.settle.ensures
