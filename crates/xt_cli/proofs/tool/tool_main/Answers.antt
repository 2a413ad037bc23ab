use Rattle.xt_cli.proofs.Refusing.{tool_refuses}
use Rattle.xt_cli.proofs.tool.tool_main.Goals as goal

pub returns-in-Err-clause-answers : goal.returns-in-Err-clause-answers
returns-in-Err-clause-answers g c =
    tool_refuses _ c.in-Err.refusal c.status_of.result (g.S.Source.left c.args.source.now) (g.K.Sink.told c.args.sink.now) (g.S.Source.faults c.args.source.now)
    (g.K.Sink.faults c.args.sink.now) c.in-Err.ensures.means c.status_of.ensures
