-- The words that stand there, and those that are left, make the table.
use Rattle.xt_gen.specs.Generated.{table_of}
use Rattle.xt_gen.proofs.Tabled.{Left}
use Rattle.xt_gen.proofs.table.table.Given as goal

abbrev pub invariant-loop-word : goal.invariant-loop-word
invariant-loop-word l = Left l._word l.x l.bytes.items (table_of l.fn.number)
