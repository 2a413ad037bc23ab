use Rattle.xt_uses.proofs.LaterUses.{uses_later}
use Rattle.xt_uses.proofs.laws.uses_are_later.Goals as goal

pub returns : goal.returns
returns c = uses_later
