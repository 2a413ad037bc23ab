use Rattle.xt_command_line.proofs.Ranges.{some_range, no_range}
use Rattle.xt_command_line.proofs.option_words.range.Goals as goal

pub returns-in-Some : goal.returns-in-Some
returns-in-Some c = rw (c.between_both.ensures, c.number.ensures, c.number-in-Some.ensures) (some_range c.args.text.now c.split_once.result c.split_once.ensures.cases _ c.in-Some.is)

pub returns-in-None : goal.returns-in-None
returns-in-None c = no_range c.args.text.now c.split_once.result c.split_once.ensures.cases c.in-None.is
