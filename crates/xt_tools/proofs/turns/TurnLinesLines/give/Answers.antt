use Rattle.xt_tools.proofs.Lined.{gives_line}
use Rattle.xt_tools.proofs.turns.TurnLinesLines.give.Goals as goal

pub returns : goal.returns
returns c = gives_line c.next.result c.args.self.now c.next.new.self c.next.ensures
