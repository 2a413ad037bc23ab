use Rattle.xt_cli.proofs.Working.{refused_puts, written_puts}
use Rattle.xt_cli.proofs.tool.put.Goals as goal

pub returns-in-Ok : goal.returns-in-Ok
returns-in-Ok g c =
    written_puts c.args.job.now c.args.input.now c.write_text.result c.status_after.result _ _ _ _ c.in-Ok.text c.in-Ok.ensures.ok c.write_text.ensures c.status_after.ensures

pub returns-in-Err : goal.returns-in-Err
returns-in-Err g c =
    refused_puts c.args.job.now c.args.input.now (g.K.Sink.told c.args.sink.now) (g.K.Sink.faults c.args.sink.now) c.in-Err.status c.in-Err.ensures.refused
