use Rattle.xt_command_line.proofs.SpanTexts.{no_span, some_span}
use Rattle.xt_command_line.proofs.spans.span_of.Goals as goal

pub returns-in-Some : goal.returns-in-Some
returns-in-Some c = rw (c.span_by.ensures, c.number.ensures, c.number-in-Some.ensures) (some_span c.args.text.now c.split_once.result c.split_once.ensures.cases _ c.in-Some.is)

pub returns-in-None : goal.returns-in-None
returns-in-None c = no_span c.args.text.now c.split_once.result c.split_once.ensures.cases c.in-None.is
