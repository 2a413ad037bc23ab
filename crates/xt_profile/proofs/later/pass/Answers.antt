use Rattle.std.proofs.Common.{◌≡◌, suc, ◌+◌, ◌-◌, ◌∙◌, ℕ, drop, sym, ap, arith}
use Rattle.xt_profile.proofs.PastCut.{drop_rest}
use Rattle.xt_profile.proofs.later.pass.Goals as goal

pub loop-preserved : goal.loop-preserved
loop-preserved g c =
    let left = g.R.Records.left c.loop.records in
    let n = c.args.count - (c.loop.counter + 1) in
    let more : c.args.count - c.loop.counter ≡ suc n = omega (arith, c.loop-test.true) in
    ap (drop n) c.next.ensures.rest ∙ (drop_rest n left ∙ (ap (λ (m : ℕ). drop m left) (sym more) ∙ c.loop.invariant))
