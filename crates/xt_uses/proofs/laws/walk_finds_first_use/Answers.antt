use Rattle.xt_uses.proofs.UseFirst.{walk_finds}
use Rattle.xt_uses.proofs.laws.walk_finds_first_use.Goals as goal

pub returns : goal.returns
returns c = walk_finds
