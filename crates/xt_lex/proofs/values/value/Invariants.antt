-- The total and the value of the terms that are left are the value of all, and each term is less than 2^40 away from 0.
use Rattle.std.proofs.Common.{◌≡◌, ◌^◌, ◌*◌, pos, ◌-ℤ◌, ◌≤ℤ◌, drop, Some}
use Rattle.xt_lex.specs.Values.{plus, value_of}
use Rattle.xt_lex.proofs.values.value.Given as goal

abbrev pub invariant-loop-term : goal.invariant-loop-term
invariant-loop-term l = record {
  sum : plus (Some l.total) (value_of l.labels (drop l.term-index l.term-items)) ≡ value_of l.labels l.term-items;
  least : (pos 0 -ℤ pos (l.term-index * 2 ^ 40)) ≤ℤ l.total;
  most : l.total ≤ℤ pos (l.term-index * 2 ^ 40);
}
