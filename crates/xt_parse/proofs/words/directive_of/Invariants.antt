-- The word is none of those that were looked at.
use Rattle.std.proofs.Common.{◌≡◌, drop, map, find}
use Rattle.std.specs.Str.{bytes_eq}
use Rattle.xt_parse.specs.Words.{word_and_form}
use Rattle.xt_parse.proofs.words.directive_of.Given as goal

abbrev pub invariant-loop-word : goal.invariant-loop-word
invariant-loop-word l = find (λ row. bytes_eq row.0 l.name) (map word_and_form (drop l.word-index l.word-items)) ≡ find (λ row. bytes_eq row.0 l.name) (map word_and_form l.word-items)
