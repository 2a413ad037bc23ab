use Rattle.std.proofs.Common.{◌≡◌, ℕ, ◌+◌, ◌-◌, ◌*◌, Bool, false, ◌||◌, List, sym, ap, ◌∙◌, arith}
use Rattle.xt_map.specs.Touching.{touches}
use Rattle.xt_frames.specs.Breaches.{Bounds}
use Rattle.xt_frames.specs.Frames.{Frame, value_or_zero}
use Rattle.xt_frames.specs.Walked.{calls_in}
use Rattle.xt_judged.proofs.Areas.{calls_next, covered, covered_all, covered_last, covered_step, not_found}
use Rattle.xt_judged.proofs.live.may_be_live.Goals as goal

pub loop-back-init : goal.loop-back-init
loop-back-init c = λ a h.
    let w = c.args.frames.now in
    covered_all w.bounds.range.hi (value_or_zero w.state.seen 1) w.state.frames a

pub loop-back-preserved : goal.loop-back-preserved
loop-back-preserved c = λ a h.
    let w = c.args.frames.now in
    let hi : ℕ = w.bounds.range.hi in
    let top : ℕ = value_or_zero w.state.seen 1 in
    let fs : List Frame = w.state.frames in
    let back : ℕ = c.loop-back.back in
    let by : ℕ = c.loop-back.by in
    let sp : ℕ = c.sp-sp.result in
    let above : ℕ = c.sp-above.result in
    let here : Bool = touches (sp - 16) 16 a || touches (above - 16 * by) (16 * (by - 1)) a in
    let rest : Bool = covered hi top fs (back + 1) (calls_in fs back) a in
    let step : covered hi top fs back by a ≡ (here || rest) = covered_step hi top fs c.depth-depth.result back by a sp above c.depth-depth.ensures.depth c.loop-back-test.true c.sp-sp.ensures c.sp-above.ensures in
    let next : c.calls-by.result ≡ calls_in fs back = c.calls-by.ensures ∙ calls_next fs c.depth-depth.result back c.depth-depth.ensures.depth c.loop-back-test.true in
    ap (λ (n : ℕ). covered hi top fs (back + 1) n a) next
    ∙ (sym (step ∙ not_found here rest (c.may_be_called.ensures c.if-may_be_called.false a h)) ∙ c.loop-back.invariant a h)

pub returns : goal.returns
returns c = λ none a h.
    let w = c.args.frames.now in
    let by : ℕ = c.loop-back.by in
    let back : ℕ = c.loop-back.back in
    let d = c.depth-depth.ensures.depth in
    let all = c.loop-back-test.false in
    let hi : c.limits.result.hi ≡ w.bounds.range.hi = ap (λ (b : Bounds). b.range.hi) c.limits.ensures in
    let first = c.may_be_first.ensures none a h in
    sym (c.loop-back.invariant a h) ∙ covered_last w.bounds.range.hi (value_or_zero w.state.seen 1) w.state.frames back by a (omega (arith, d, all))
    ∙ sym (ap (λ (x : ℕ). touches (x - 76) 4 a || (touches (x - 16 * by) (16 * (by - 1)) a || false)) hi) ∙ first
