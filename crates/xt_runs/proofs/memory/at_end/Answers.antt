use Rattle.xt_runs.proofs.Places.{shows_last, stood}
use Rattle.xt_runs.proofs.memory.at_end.Goals as goal

pub returns : goal.returns
returns c =
    shows_last c.args.image.now c.args.run.now c.in_ok-replay.replay c.seek.new.self c.in_ok-replay.ensures
    (stood c.in_ok-replay.replay c.seek.new.self c.seek.result c.end_of.result c.end_of.ensures c.seek.ensures)
