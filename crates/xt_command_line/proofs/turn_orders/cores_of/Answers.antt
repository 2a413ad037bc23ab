use Rattle.std.proofs.Common.{sym, subst, ◌<◌}
use Rattle.std.specs.Prelude.{All}
use Rattle.xt_command_line.proofs.TurnTexts.{are_cores}
use Rattle.xt_command_line.proofs.turn_orders.cores_of.Goals as goal

pub returns-clause-cores : goal.returns-clause-cores
returns-clause-cores c = subst (All (λ core. core < 2)) (sym c.in_ok-cores.ensures) (are_cores c.args.list.now)
