-- The spans of the headers that were gone through are there.
use Rattle.xt_elf.specs.Spans.{HasSpans}
use Rattle.xt_elf.proofs.spans.spans_of.Given as goal

abbrev pub invariant-loop-number : goal.invariant-loop-number
invariant-loop-number l = HasSpans l.headers l.number l.spans.items
