use Rattle.xt_simulation.proofs.SecretRuns.{image_runs_are_same_up_to_the_leak}
use Rattle.xt_simulation.proofs.secret_laws.image_runs_are_same_up_to_the_leak.Goals as goal

pub returns : goal.returns
returns c = image_runs_are_same_up_to_the_leak
