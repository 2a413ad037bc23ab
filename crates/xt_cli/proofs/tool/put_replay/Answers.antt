use Rattle.xt_cli.specs.declared.tool.Job.TheVariants.{Replay}
use Rattle.xt_cli.proofs.Working.{refused_replays, written_replays}
use Rattle.xt_cli.proofs.tool.put_replay.Goals as goal

pub returns-in-Ok : goal.returns-in-Ok
returns-in-Ok g c =
    written_replays (Replay c.args.script.now c.args.beyond) c.args.input.now c.write_text-written.result c.in-Ok.printed.beyond c.status_beyond.result c.status_after.result _ _ _ _
    c.in-Ok.printed.text c.in-Ok.ensures.ok c.in-Ok.ensures.beyond c.write_text-written.ensures c.status_beyond.ensures c.status_after.ensures

pub returns-in-Err : goal.returns-in-Err
returns-in-Err g c =
    refused_replays (Replay c.args.script.now c.args.beyond) c.args.input.now (g.K.Sink.told c.args.sink.now) (g.K.Sink.faults c.args.sink.now) c.in-Err.status c.in-Err.ensures.refused
