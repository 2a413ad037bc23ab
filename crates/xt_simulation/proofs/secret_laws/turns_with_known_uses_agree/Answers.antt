use Rattle.xt_simulation.proofs.Law.{turns_with_known_uses_agree}
use Rattle.xt_simulation.proofs.secret_laws.turns_with_known_uses_agree.Goals as goal

pub returns : goal.returns
returns c = turns_with_known_uses_agree
