use Rattle.std.specs.List.{All}
use Rattle.std.specs.Prelude.{take}
use Rattle.xt_moment_search.specs.KnownCores.{known_byte}
use Rattle.xt_moment_search.proofs.KnownWords.{IsKnownWord}
use Rattle.xt_moment_search.proofs.keys.has_hidden_word.Given as goal

abbrev pub invariant-loop-word : goal.invariant-loop-word
invariant-loop-word l = All (IsKnownWord (known_byte l.ground.cleared.contents l.world.hidden.value)) (take l.word-index l.words)
