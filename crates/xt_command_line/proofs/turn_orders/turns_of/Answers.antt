use Rattle.xt_command_line.proofs.TurnTexts.{no_turns, some_turns}
use Rattle.xt_command_line.proofs.turn_orders.turns_of.Goals as goal

pub returns-in-Some : goal.returns-in-Some
returns-in-Some c = rw (c.turns_by.ensures, c.core_in.ensures, c.number.ensures) (some_turns c.args.text.now c.split_once.result c.split_once.ensures.cases _ c.in-Some.is)

pub returns-in-None : goal.returns-in-None
returns-in-None c = no_turns c.args.text.now c.split_once.result c.split_once.ensures.cases c.in-None.is
