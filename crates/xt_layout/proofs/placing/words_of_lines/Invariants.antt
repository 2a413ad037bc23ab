use Rattle.xt_layout.specs.Pools.{words_of}
use Rattle.xt_layout.specs.Seen.{has}
use Rattle.xt_layout.proofs.Growing.{Makes}
use Rattle.xt_layout.proofs.placing.words_of_lines.Given as goal

-- the words so far, those that the later lines add to the open pool, and those of the later pools are all words
abbrev pub invariant-loop-k : goal.invariant-loop-k
invariant-loop-k l = Makes l.words.items l.current (has l.seen) l.k l.lines (words_of l.fn.lines)
