use Rattle.std.specs.Prelude.{option_copied}
use Rattle.std.proofs.Common.{◌≡◌, ℕ, ap, ◌∙◌, subst, arith, Option}
use Rattle.xt_frames.specs.Breaches.{Bounds}
use Rattle.xt_discipline.specs.declared.side.Areas.{Areas}
use Rattle.xt_discipline.specs.Sides.{IsCallOf, IsNewestCall}
use Rattle.xt_judged.proofs.StaleAfter.{after_call, after_return}
use Rattle.xt_judged.proofs.gone.stale_past.Goals as goal

pub returns-then-before-depth : goal.returns-then-before-depth
returns-then-before-depth c = λ w is bounds m apart a.
    let own = c.args.own.now in
    let d = c.depth-depth.ensures.depth in
    let e = is.depth in
    let less = c.if-before-depth.true in
    let hi : c.limits.result.hi ≡ own.bounds.range.hi = ap (λ (b : Bounds). b.range.hi) c.limits.ensures in
    let call : IsNewestCall c.areas-call.result own.bounds.range.hi own.state = subst (λ (h : ℕ). IsNewestCall c.areas-call.result h own.state) hi c.areas-call.ensures in
    c.in_ok-spared.ensures a
    ∙ after_call own w (option_copied c.args.other) c.args.stale.now c.args.access bounds m apart c.areas-call.result call (omega (arith, d, e, less)) a

pub returns-in_ok-past_return-in-Some : goal.returns-in_ok-past_return-in-Some
returns-in_ok-past_return-in-Some c = λ w is bounds m apart a.
    let own = c.args.own.now in
    let d = c.depth-depth.ensures.depth in
    let e = is.depth in
    let more = c.if-before-depth.false in
    let other = c.if-depth-before.false in
    let call : IsNewestCall c.in-Some.call w.bounds.range.hi w.state = subst (λ (k : Option Areas). IsCallOf k w.bounds.range.hi w.state) c.in-Some.is is.call in
    c.in_ok-past_return-in-Some.ensures a
    ∙ after_return own w (option_copied c.args.other) c.args.stale.now c.args.access bounds m apart c.in-Some.call call (omega (arith, d, e, more, other)) a
