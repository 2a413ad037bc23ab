use Rattle.std.proofs.Common.{arith, length}
use Rattle.xt_layout.proofs.Counting.{counts_none, counts_more, counts_all, counts_fit}
use Rattle.xt_layout.proofs.counts.count_words.Goals as goal

pub loop-word-init : goal.loop-word-init
loop-word-init c = counts_none c.args.counts.now c.args.words.now c.requires.none

pub count_one-requires : goal.count_one-requires
count_one-requires c = counts_fit c.loop-word.counts c.args.words.now c.loop-word.word-index (length c.args.counts.now) c.word-item.result.position c.requires.few (omega arith) c.loop-word.invariant

pub loop-word-preserved : goal.loop-word-preserved
loop-word-preserved c = counts_more c.loop-word.counts c.count_one.new.counts c.args.words.now c.loop-word.word-index (length c.args.counts.now) c.word-item.result
    c.loop-word-test.true c.word-item.is c.loop-word.invariant c.count_one.ensures

pub returns : goal.returns
returns c = counts_all c.loop-word.counts c.args.words.now c.loop-word.word-index (length c.args.counts.now) c.loop-word-test.false c.loop-word.invariant
