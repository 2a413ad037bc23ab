-- The number is none of those that were looked at.
use Rattle.std.proofs.Common.{◌≡◌, drop, map, find, eqb}
use Rattle.xt_names.specs.Search.{shown_special}
use Rattle.xt_names.proofs.special.exchanged_name.Given as goal

abbrev pub invariant-loop-word : goal.invariant-loop-word
invariant-loop-word l = find (λ row. eqb row.1 l.number) (map shown_special (drop l.word-index l.word-items)) ≡ find (λ row. eqb row.1 l.number) (map shown_special l.word-items)
