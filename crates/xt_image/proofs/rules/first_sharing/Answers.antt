use Rattle.std.proofs.Common.{sym}
use Rattle.std.proofs.lemmas.Iterator.Adapters.{position_from-zero}
use Rattle.xt_map.specs.declared.segment.Segment.{Segment}
use Rattle.xt_map.specs.Placing.{do_overlap}
use Rattle.xt_image.proofs.rules.first_sharing.Goals as goal

pub loop-i-init : goal.loop-i-init
loop-i-init c = sym (position_from-zero (λ (t : Segment). do_overlap t c.args.segment.now) c.args.before.now)
