use Rattle.xt_runs.specs.Memory.{span_line}
use Rattle.xt_runs.proofs.Places.{line_more}
use Rattle.xt_runs.proofs.memory.push_spans.Goals as goal

pub loop-span-preserved : goal.loop-span-preserved
loop-span-preserved c =
    line_more (span_line c.args.state.now) c.loop-span.out.items c.push_words.new.out.items _ c.loop-span.span-index c.args.spans.now _
    c.loop-span-test.true c.in_ok-push_words.ensures c.loop-span.invariant
