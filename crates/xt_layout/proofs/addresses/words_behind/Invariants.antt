use Rattle.xt_layout.proofs.Wording.{Words}
use Rattle.xt_layout.proofs.addresses.words_behind.Given as goal

-- the words so far have their addresses
abbrev pub invariant-loop-word : goal.invariant-loop-word
invariant-loop-word l = Words l.addresses l.words l.word-index l.used l.behind.items
