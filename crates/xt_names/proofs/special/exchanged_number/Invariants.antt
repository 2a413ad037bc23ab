-- The name is none of those that were looked at.
use Rattle.std.proofs.Common.{◌≡◌, drop, map, find}
use Rattle.std.specs.Str.{bytes_eq}
use Rattle.xt_names.specs.Search.{shown_special}
use Rattle.xt_names.proofs.special.exchanged_number.Given as goal

abbrev pub invariant-loop-word : goal.invariant-loop-word
invariant-loop-word l = find (λ row. bytes_eq row.0 l.name) (map shown_special (drop l.word-index l.word-items)) ≡ find (λ row. bytes_eq row.0 l.name) (map shown_special l.word-items)
