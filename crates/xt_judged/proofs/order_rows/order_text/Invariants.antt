-- The rows so far, and the text of those that are left, make the whole.
use Rattle.std.proofs.Common.{◌≡◌, ◌+◌, ◌≤◌, ◌++◌, drop}
use Rattle.std.specs.Prelude.{string_bytes}
use Rattle.xt_judged.specs.OrderText.{rows_from, rows_text}
use Rattle.xt_judged.proofs.order_rows.order_text.Given as goal

abbrev pub invariant-loop-next : goal.invariant-loop-next
invariant-loop-next l = record {
  text : string_bytes l.out ++ rows_text (rows_from l.core l.count (drop l.next-index l.rest)) ≡ rows_text (rows_from l.initial.core 1 l.rest);
  few : l.count ≤ l.next-index + 1;
}
