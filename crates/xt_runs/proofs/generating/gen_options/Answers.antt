use Rattle.xt_runs.proofs.Numbered.{options_are_valid}
use Rattle.xt_runs.proofs.generating.gen_options.Goals as goal

pub returns-clause-valid : goal.returns-clause-valid
returns-clause-valid c = options_are_valid
