use Rattle.xt_cli.proofs.Replayed.{text_from, beyond_from}
use Rattle.xt_cli.proofs.tool.replayed.Goals as goal

pub returns-clause-text : goal.returns-clause-text
returns-clause-text c = text_from c.args.beyond c.args.script.now _ _ _ c.run.result c.in_ok-debugger.ensures c.run.ensures

pub returns-clause-beyond : goal.returns-clause-beyond
returns-clause-beyond c = beyond_from c.args.beyond c.args.script.now _ _ _ c.run.result c.in_ok-debugger.ensures c.run.ensures
