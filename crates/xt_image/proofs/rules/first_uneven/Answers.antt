use Rattle.std.proofs.Common.{sym}
use Rattle.std.proofs.lemmas.Iterator.Adapters.{position_from-zero}
use Rattle.xt_image.specs.Rules.{is_uneven}
use Rattle.xt_image.proofs.rules.first_uneven.Goals as goal

pub loop-i-init : goal.loop-i-init
loop-i-init c = sym (position_from-zero is_uneven c.args.segments.now)
