-- The rows so far, and the text of those that are left, make the whole.
use Rattle.std.proofs.Common.{◌≡◌, ◌+◌, ◌≤◌, ◌++◌, drop}
use Rattle.std.specs.Prelude.{string_bytes}
use Rattle.xt_moment_search.specs.MomentOrders.{move_rows_from, move_rows_text}
use Rattle.xt_moment_search.proofs.order_rows.order_text.Given as goal

abbrev pub invariant-loop-next : goal.invariant-loop-next
invariant-loop-next l = record {
  text : string_bytes l.out ++ move_rows_text (move_rows_from l.made l.count (drop l.next-index l.rest)) ≡ move_rows_text (move_rows_from l.initial.made 1 l.rest);
  few : l.count ≤ l.next-index + 1;
}
