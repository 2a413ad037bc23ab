use Rattle.xt_names.proofs.InRange.{whole}
use Rattle.xt_names.proofs.laws.instructions_are_their_parts.Goals as goal

pub returns : goal.returns
returns c = whole
