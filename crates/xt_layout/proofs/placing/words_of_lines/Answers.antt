use Rattle.xt_layout.specs.Pools.{words_of}
use Rattle.xt_layout.specs.Seen.{has}
use Rattle.xt_layout.proofs.Growing.{none, more, every}
use Rattle.xt_layout.proofs.placing.words_of_lines.Goals as goal

pub loop-k-init : goal.loop-k-init
loop-k-init c = none c.new-words.result.items (has c.new-seen.result) c.args.lines.now c.new-words.ensures.items

pub loop-k-preserved : goal.loop-k-preserved
loop-k-preserved c = more c.loop-k.words.items c.advance.new.words.items c.loop-k.current c.in_ok-current.current (has c.loop-k.seen) (has c.advance.new.seen) c.loop-k.k c.args.lines.now
    c.index-lines-k.result (words_of c.args.lines.now) c.loop-k-test.true c.index-lines-k.is c.loop-k.invariant
    c.in_ok-current.ensures.words c.in_ok-current.ensures.now c.in_ok-current.ensures.seen

pub returns : goal.returns
returns c = every c.loop-k.words.items c.loop-k.current (has c.loop-k.seen) c.loop-k.k c.args.lines.now (words_of c.args.lines.now) c.loop-k-test.false c.loop-k.invariant
