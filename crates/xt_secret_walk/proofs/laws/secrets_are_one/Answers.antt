use Rattle.xt_secret_walk.proofs.OneAnswer.{secrets_one}
use Rattle.xt_secret_walk.proofs.laws.secrets_are_one.Goals as goal

pub returns : goal.returns
returns c = secrets_one
