use Rattle.std.proofs.Common.{refl}
use Rattle.xt_secret_walk.proofs.Knowing.{whole_known}
use Rattle.xt_secret_walk.proofs.masks.CoreMasks.whole.Goals as goal

pub returns : goal.returns
returns c = whole_known _ refl refl refl
