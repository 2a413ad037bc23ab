-- The turns that follow are few where all are.
use Rattle.std.proofs.Common.{◌≡◌, drop}
use Rattle.std.specs.Prelude.{nat_le}
use Rattle.xt_command_line.specs.TurnOrders.{are_few, turns_asked}
use Rattle.xt_command_line.proofs.turn_orders.are_few.Given as goal

abbrev pub invariant-loop-turns : goal.invariant-loop-turns
invariant-loop-turns l = nat_le (turns_asked (drop l.turns-index l.list)) l.left ≡ are_few l.list
