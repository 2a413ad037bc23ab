use Rattle.xt_debug.specs.Searches.{end_of}
use Rattle.xt_debug.proofs.Sought.{sought}
use Rattle.xt_debug.proofs.searching.reach.Goals as goal

pub returns : goal.returns
returns c = sought c.args.replay.now c.seek.new.self c.args.position (end_of c.args.replay.now.run) c.seek.result c.seek.ensures c.requires
