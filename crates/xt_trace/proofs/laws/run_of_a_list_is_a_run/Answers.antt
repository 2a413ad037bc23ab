use Rattle.xt_trace.proofs.Ends.{run_at_is_run}
use Rattle.xt_trace.proofs.laws.run_of_a_list_is_a_run.Goals as goal

pub returns : goal.returns
returns g c = run_at_is_run
