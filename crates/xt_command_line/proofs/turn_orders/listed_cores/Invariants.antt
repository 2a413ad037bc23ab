-- The cores so far, before those of the turns that follow, are those of all.
use Rattle.std.proofs.Common.{◌≡◌, ◌++◌, drop}
use Rattle.xt_command_line.specs.TurnOrders.{cores_of}
use Rattle.xt_command_line.proofs.turn_orders.listed_cores.Given as goal

abbrev pub invariant-loop-turns : goal.invariant-loop-turns
invariant-loop-turns l = l.cores.items ++ cores_of (drop l.turns-index l.list) ≡ cores_of l.list
