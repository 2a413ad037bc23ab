use Rattle.std.proofs.Common.{◌∙◌, Bool, ap, sym}
use Rattle.xt_moments.specs.MomentLaws.{entered_known}
use Rattle.xt_moment_search.specs.KnownCores.{moment_known_of}
use Rattle.xt_moment_search.proofs.Learnt.{epc1_entered}
use Rattle.xt_moments.specs.MomentLaws.{enters}
use Rattle.xt_moment_search.proofs.knowing.enter.Goals as goal

pub returns-then-enters : goal.returns-then-enters
returns-then-enters c =
    let e = c.set_mask.ensures in
    epc1_entered c.args.masks.now c.set_mask.new.masks (enters c.args.kind c.args.ps)
    (sym c.enters.ensures ∙ c.if-enters.true) e.regs e.special e.threadptr e.long

pub returns-else-enters : goal.returns-else-enters
returns-else-enters c =
    ap (λ (b : Bool). entered_known b (moment_known_of c.args.masks.now)) (sym (sym c.enters.ensures ∙ c.if-enters.false))
