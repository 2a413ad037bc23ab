use Rattle.xt_debug.proofs.Kept.{is_of_ran}
use Rattle.xt_debug.proofs.debugger.Debugger.run.Goals as goal

pub invariant_of-self : goal.invariant_of-self
invariant_of-self c =
    is_of_ran c.run_script.new.kept c.args.beyond c.args.script.now c.self.inside.replay c.run_script.new.replay c.run_script.result c.run_script.ensures.ran c.run_script.ensures.kept
