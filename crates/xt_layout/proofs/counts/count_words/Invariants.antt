use Rattle.std.proofs.Common.{length}
use Rattle.xt_layout.proofs.Counting.{Counts}
use Rattle.xt_layout.proofs.counts.count_words.Given as goal

-- the words so far are counted
abbrev pub invariant-loop-word : goal.invariant-loop-word
invariant-loop-word l = Counts l.counts l.words l.word-index (length l.fn.counts)
