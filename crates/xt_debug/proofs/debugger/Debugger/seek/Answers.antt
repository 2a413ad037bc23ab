use Rattle.xt_debug.specs.Searches.{end_of}
use Rattle.xt_debug.proofs.Kept.{is_of_sought}
use Rattle.xt_debug.proofs.debugger.Debugger.seek.Goals as goal

pub invariant_of-self : goal.invariant_of-self
invariant_of-self c =
    is_of_sought c.self.inside.kept c.args.position (end_of c.self.inside.replay.run) c.self.inside.replay c.seek.new.self c.seek.result c.seek.ensures c.self.invariant
