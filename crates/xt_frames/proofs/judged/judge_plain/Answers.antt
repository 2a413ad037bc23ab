use Rattle.std.proofs.Common.{◌≡◌, ℕ, List, ◌<◌, Bool, None, sym, ◌∙◌, ap, subst}
use Rattle.xt_map.specs.Memory.{constant_byte}
use Rattle.xt_map.specs.Fetching.{fetch_at}
use Rattle.xt_frames.specs.Frames.{FrameState}
use Rattle.xt_frames.specs.FrameStep.{FrameTurn, with_inputs, step_with_inputs}
use Rattle.xt_frames.specs.Breaches.{fresh_after, inputs_of, laid_breach}
use Rattle.xt_frames.specs.KeptFrameState.{IsKindOf, state_at, turn_as}
use Rattle.xt_frames.specs.Stacks.{Moves, Stack}
use Rattle.xt_frames.specs.Walked.{bounds_of}
use Rattle.xt_frames.proofs.StackSteps.{keeps_stack, moves_as, moves_frames, moves_unset}
use Rattle.xt_frames.proofs.TestRows.{plan_ranges}
use Rattle.xt_frames.proofs.Inside.{breach_plain, fresh_plain, kind_planned, step_plain}
use Rattle.xt_trace.specs.declared.record.StepKind.{StepKind}
use Rattle.xt_frames.specs.Nesting.{unset_after}
use Rattle.xt_frames.proofs.judged.judge_plain.Goals as goal

pub returns-in-Some-clause-done : goal.returns-in-Some-clause-done
returns-in-Some-clause-done c = λ frames live stale k.
    let code = constant_byte c.args.code.now in
    let rec = c.args.rec.now in
    let case = c.args.case.now in
    let h = c.args.holes.now in
    let f = state_at frames h c.args.view.now in
    let B = λ (f : FrameState). laid_breach (bounds_of case.limits) case.fresh code live stale rec f in
    let over = c.lay.ensures frames h in
    let found = c.breach_of.ensures code frames live stale k c.plan-plan.ensures.plan (c.step-step.ensures.turn frames h k.newest) in
    (breach_plain (bounds_of case.limits) case.fresh code live stale rec f c.requires.plain ∙ (ap B (sym over) ∙ (sym found ∙ c.in-Some.is)), ap (state_at frames h) (c.uncover.ensures c.args.view.now (inputs_of rec) frames h c.covered-covered.ensures.value over))

pub returns-clause-done : goal.returns-clause-done
returns-clause-done c = λ frames live stale k.
    let code = constant_byte c.args.code.now in
    let rec = c.args.rec.now in
    let case = c.args.case.now in
    let h = c.args.holes.now in
    let plain = c.requires.plain in
    let f = state_at frames h c.args.view.now in
    let inp = inputs_of rec in
    let laid_f = state_at frames h c.lay.new.self in
    let B = λ (f : FrameState). laid_breach (bounds_of case.limits) case.fresh code live stale rec f in
    let over = c.lay.ensures frames h in
    let turn = c.step-step.ensures.turn frames h k.newest in
    let found = c.breach_of.ensures code frames live stale k c.plan-plan.ensures.plan turn in
    let past = turn ∙ ap (step_with_inputs code rec.reply) over in
    let K : StepKind → Type 0 = λ n. IsKindOf c.plan-plan.result n in
    let kind : K c.step-step.result.kind = subst K (sym (ap (λ (u : FrameTurn). u.kind) turn)) (kind_planned c.plan-plan.result code rec.reply laid_f c.plan-plan.ensures.plan) in
    let numbers = c.give_numbers.ensures code c.lay.new.self.control c.plan-plan.ensures.plan kind in
    let U : List Bool → FrameState → FrameState = λ unset s. record s { unset = unset } in
    let N : FrameTurn → FrameState → FrameState = λ u g. U (unset_after u.kind (fetch_at code g.control.pc) h.unset) u.after in
    let after = ap (λ (unset : List Bool). U unset (turn_as c.step-step.result frames h c.step-step.new.self).after) numbers
    ∙ (ap (λ (u : FrameTurn). N u laid_f) past ∙ ap (N (step_with_inputs code rec.reply (with_inputs inp f))) over) in
    let step = step_plain code rec f plain in
    let F : FrameTurn → FrameState → Bool = λ u g. fresh_after case.fresh u.kind (fetch_at code g.control.pc) g.control.ps u.after.control.ps in
    let fresh = c.fresh_after.ensures ∙ (ap (λ (u : FrameTurn). F u laid_f) past ∙ ap (F (step_with_inputs code rec.reply (with_inputs inp f))) over) in
    (breach_plain (bounds_of case.limits) case.fresh code live stale rec f plain ∙ (ap B (sym over) ∙ (sym found ∙ c.in_default.is)), after ∙ sym (ap (λ (u : FrameTurn). u.after) step), fresh ∙ sym (fresh_plain case.fresh code rec f plain (sym (ap (λ (u : FrameTurn). u.after.nested) past) ∙ plain)))

pub returns-clause-kept : goal.returns-clause-kept
returns-clause-kept c = λ frames live stale k on.
    let code = constant_byte c.args.code.now in
    let rec = c.args.rec.now in
    let case = c.args.case.now in
    let over = c.lay.ensures frames c.args.holes.now in
    let turn = c.step-step.ensures.turn frames c.args.holes.now k.newest in
    let b = bounds_of case.limits in
    let g : FrameState = state_at frames c.args.holes.now c.lay.new.self in
    let none : laid_breach b case.fresh code live stale rec g ≡ None = sym (c.breach_of.ensures code frames live stale k c.plan-plan.ensures.plan turn) ∙ c.in_default.is in
    let P : FrameState → Type 0 = λ f. Stack case.limits.lo case.limits.hi f.seen f.frames in
    let stack : P g = subst P (sym over) on in
    let C : ℕ → Type 0 = λ n. n < 4 in
    let calls : C g.control.ps.callinc = subst C c.callinc-by.ensures.value c.callinc-by.ensures.range in
    let ranges = plan_ranges c.plan-plan.result code g.control c.plan-plan.ensures.plan in
    let kept = keeps_stack code b case.fresh live stale rec g stack calls ranges none in
    let moved = moves_frames code b case.fresh live stale rec g stack calls ranges none in
    let after : FrameState = (turn_as c.step-step.result frames c.args.holes.now c.step-step.new.self).after in
    let T : FrameTurn → Type 0 = λ u. P u.after in
    let M : FrameTurn → Type 0 = λ u. Moves g u.after in
    let G : FrameState → Type 0 = λ f. Moves f after in
    (subst T (sym turn) kept, moves_unset (state_at frames c.args.holes.now c.args.view.now) after c.give_numbers.new.unset (moves_as (inputs_of rec) (state_at frames c.args.holes.now c.args.view.now) after (subst G over (subst M (sym turn) moved))))
