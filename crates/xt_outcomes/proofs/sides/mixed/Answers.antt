use Rattle.std.proofs.Common.{◌≡◌, ◌≤◌, ap, ◌∙◌, arith}
use Rattle.xt_outcomes.specs.SideMarks.{mixed, pairs_of}
use Rattle.xt_outcomes.proofs.sides.mixed.Goals as goal

pub returns : goal.returns
returns c =
    let low : 32 ≤ c.loop-n.n = c.loop-n-test.false in
    let high : c.loop-n.n ≤ 32 = c.loop-n.auto.n-end in
    let all : c.loop-n.n ≡ 32 = omega (arith, low, high) in
    c.loop-n.invariant.digest ∙ ap (mixed (pairs_of c.args.windows.now.regs) c.args.digest) all
