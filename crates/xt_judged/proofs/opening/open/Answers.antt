use Rattle.std.proofs.Common.{None, ◌∙◌}
use Rattle.xt_judged.specs.Stales.{among}
use Rattle.xt_judged.proofs.Turned.{made}
use Rattle.xt_judged.proofs.opening.open.Goals as goal

pub returns : goal.returns
returns c =
    let zero = c.in_ok-standing0.ensures in
    let one = c.in_ok-standing1.ensures in
    let none = c.in_ok-stale.ensures.ok ∙ c.none.ensures in
    record {
      scene = λ i. made (c.in_ok-world.ensures i) (zero.known i) (one.known i) (among (none i)) None None;
      judged0 = zero.bounds;
      judged1 = one.bounds;
    }
