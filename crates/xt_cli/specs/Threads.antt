-- Carries a proof; nothing that a reader must believe.
-- The orders that are handed to threads ('profile').
use Rattle.std.specs.Prelude.{Result, Ok}
use Rattle.xt_command_line.specs.declared.command.Refusal.{Refusal}
use Rattle.xt_cli.specs.declared.orders.Order.{Order}
use Rattle.xt_cli.specs.declared.orders.Order.TheVariants as order

-- the words ask for a run
abbrev pub IsThreaded : Result Order Refusal → Type 0
IsThreaded (Ok (order.Run wanted options)) = Unit {0}
IsThreaded (Ok (order.Generate number)) = Unit {0}
IsThreaded _ = ⊥
