use Rattle.std.proofs.Common.{◌≤◌, ◌*◌, ◌∙◌, ap, arith, cond, refl, subst, sym}
use Rattle.xt_frames.specs.KeptFrameState.{IsNewest, frame_of}
use Rattle.xt_uses.specs.UseStep.{leave_results}
use Rattle.xt_uses.specs.UseParts.{use_at}
use Rattle.xt_uses.proofs.Left.{gone_all, gone_more, gone_none}
use Rattle.xt_uses.proofs.stepping.Top.leave.Goals as goal

pub loop-i-init : goal.loop-i-init
loop-i-init c = gone_none (4 * c.in-Some.caller.by) c.args.self.now

pub loop-i-preserved : goal.loop-i-preserved
loop-i-preserved c = gone_more (4 * c.in-Some.caller.by) c.loop-i.i c.args.self.now c.loop-i.self c.leave_register.new.self c.loop-i.invariant c.leave_register.ensures

pub returns-clause-state : goal.returns-clause-state
returns-clause-state c = λ frames callers kept newest.
    let end = c.loop-i-test.false in
    let n : 16 ≤ c.loop-i.i = omega (arith, end) in
    let u = use_at frames kept c.args.self.now.holes c.args.self.now.view c.args.self.now.masks in
    gone_all frames callers kept (4 * c.in-Some.caller.by) c.loop-i.i c.args.self.now c.loop-i.self (frame_of c.in-Some.caller) c.loop-i.invariant (subst (λ o. IsNewest o callers) c.in-Some.is newest) refl n
    ∙ sym (ap (λ b. cond b (leave_results callers u) u) c.if-not-forgets.false)
