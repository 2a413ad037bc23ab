use Rattle.std.proofs.Common.{◌≡◌, ℕ, Bool, List, Option, refl, sym, ◌∙◌, ap, subst}
use Rattle.xt_map.specs.Memory.{constant_byte}
use Rattle.xt_map.specs.Fetching.{fetch_at}
use Rattle.xt_special.specs.declared.ps.Ps.{Ps}
use Rattle.xt_trace.specs.declared.record.StepKind.{StepKind}
use Rattle.xt_frames.specs.Frames.{FrameState, value_or_zero}
use Rattle.xt_frames.specs.FrameStep.{FrameTurn, with_inputs, step_with_inputs}
use Rattle.xt_frames.specs.Breaches.{fresh_after, inputs_of, laid_breach}
use Rattle.xt_frames.specs.Judging.{value_in}
use Rattle.xt_frames.specs.Nesting.{current, nested_view, nested_fetched, nested_turn}
use Rattle.xt_frames.specs.KeptFrameState.{state_at}
use Rattle.xt_frames.specs.Stacks.{Stack, Stays}
use Rattle.xt_frames.specs.Walked.{bounds_of}
use Rattle.xt_frames.proofs.Inside.{breach_inside, fresh_inside, step_inside}
use Rattle.xt_frames.proofs.nested.judge_nested.Goals as goal

pub returns-in-Some-clause-done : goal.returns-in-Some-clause-done
returns-in-Some-clause-done c = λ begins frames live stale k.
    let code = constant_byte c.args.code.now in
    let rec = c.args.rec.now in
    let case = c.args.case.now in
    let h = c.args.holes.now in
    let x = c.args.nested.now in
    let f = state_at frames h c.args.view.now in
    let B = λ (f : FrameState). laid_breach (bounds_of case.limits) case.fresh code live stale rec f in
    let over = c.lay.ensures frames h ∙ ap (with_inputs (inputs_of rec)) (c.nested_view-inner.ensures frames h) in
    let found = c.breach_of.ensures code frames live stale k c.plan-plan.ensures.plan (c.step-step.ensures.turn frames h k.newest) in
    (breach_inside (bounds_of case.limits) case.fresh code live stale begins rec f x c.requires.nested ∙ (ap B (sym over) ∙ (sym found ∙ c.in-Some.is)), refl)

pub returns-clause-done : goal.returns-clause-done
returns-clause-done c = λ begins frames live stale k.
    let code = constant_byte c.args.code.now in
    let rec = c.args.rec.now in
    let case = c.args.case.now in
    let h = c.args.holes.now in
    let x = c.args.nested.now in
    let f = state_at frames h c.args.view.now in
    let g = with_inputs (inputs_of rec) (nested_view x f) in
    let u = step_with_inputs code rec.reply g in
    let laid_f = state_at frames h c.lay.new.self in
    let value = value_in rec.write in
    let is = c.requires.nested in
    let B = λ (f : FrameState). laid_breach (bounds_of case.limits) case.fresh code live stale rec f in
    let over = c.lay.ensures frames h ∙ ap (with_inputs (inputs_of rec)) (c.nested_view-inner.ensures frames h) in
    let turn = c.step-step.ensures.turn frames h k.newest in
    let found = c.breach_of.ensures code frames live stale k c.plan-plan.ensures.plan turn in
    let past = turn ∙ ap (step_with_inputs code rec.reply) over in
    let T : FrameTurn → FrameState → FrameState = λ v s. (nested_fetched (fetch_at code s.control.pc) value x f v).after in
    let gone = c.go_on.ensures.state frames c.args.view.now c.keep.new.self (fetch_at code c.lay.new.self.control.pc) value c.planned.ensures (c.keep.ensures frames h) in
    let after = gone ∙ (ap (λ (v : FrameTurn). T v laid_f) past ∙ ap (T u) over) in
    let next : FrameTurn = nested_turn code value (inputs_of rec) x f in
    let step = step_inside code begins rec f x is in
    let P : Ps = (current next.after).control.ps in
    let ps = ap (λ (s : FrameState). s.control.ps) (c.current-after.ensures frames) ∙ ap (λ (s : FrameState). (current s).control.ps) after in
    let F : StepKind → FrameState → Ps → Bool = λ n s p. fresh_after case.fresh n (fetch_at code s.control.pc) s.control.ps p in
    let fresh = c.fresh_after.ensures
    ∙ (ap (F c.step-step.result.kind laid_f) ps
    ∙ (ap (λ (v : FrameTurn). F v.kind laid_f P) past
    ∙ (ap (λ (s : FrameState). F u.kind s P) over
    ∙ sym (fresh_inside case.fresh code begins rec f x is)))) in
    (breach_inside (bounds_of case.limits) case.fresh code live stale begins rec f x is ∙ (ap B (sym over) ∙ (sym found ∙ c.in_default.is)), after ∙ sym (ap (λ (v : FrameTurn). v.after) step), fresh)

pub returns-clause-kept : goal.returns-clause-kept
returns-clause-kept c = λ frames on.
    let limits = c.args.case.now.limits in
    let seen : c.keep.new.self.seen ≡ c.args.view.now.seen = ap (λ (s : FrameState). s.seen) (c.keep.ensures frames c.args.holes.now) in
    let P : List (Option ℕ) → Type 0 = λ xs. Stack limits.lo limits.hi xs frames in
    (subst P (sym seen) on, Stays refl (ap (λ (xs : List (Option ℕ)). value_or_zero xs 1) seen))
