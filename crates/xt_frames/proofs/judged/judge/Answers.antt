use Rattle.std.specs.Prelude.{is_some}
use Rattle.std.proofs.Common.{◌≡◌, ◌&&◌, ℕ, Bool, true, false, not, List, Option, None, refl, sym, ◌∙◌, ap, cond, subst}
use Rattle.std.proofs.lemmas.Bool.{and_left, and_right}
use Rattle.xt_map.specs.Memory.{constant_byte}
use Rattle.xt_map.specs.Fetching.{fetch_at}
use Rattle.xt_frames.specs.declared.kinds.BreachKind.{BreachKind}
use Rattle.xt_frames.specs.declared.holes.Nested.{Nested}
use Rattle.xt_frames.specs.Frames.{FrameState, value_or_zero}
use Rattle.xt_frames.specs.FrameStep.{FrameTurn, with_inputs}
use Rattle.xt_frames.specs.Breaches.{fresh_after, inputs_of, laid_breach}
use Rattle.xt_frames.specs.Judging.{value_in}
use Rattle.xt_frames.specs.Nesting.{begins, current, frame_step, is_nesting}
use Rattle.xt_frames.specs.KeptFrameState.{state_at}
use Rattle.xt_frames.specs.Stacks.{Stack, Stays}
use Rattle.xt_frames.specs.Walked.{bounds_of}
use Rattle.xt_frames.proofs.Inside.{as_plain, fresh_begun}
use Rattle.xt_frames.proofs.judged.judge.Goals.{else-nested-via-then-nested+else-is_nesting, else-nested-via-else-nested}
use Rattle.xt_frames.proofs.judged.judge.Goals as goal

pub returns-then-is_nesting-clause-done : goal.returns-then-is_nesting-clause-done
returns-then-is_nesting-clause-done c = λ frames live stale k.
    let code = constant_byte c.args.code.now in
    let rec = c.args.rec.now in
    let case = c.args.case.now in
    let f = state_at frames c.args.holes.now c.args.view.now in
    let inp = inputs_of rec in
    let starts : begins c.args.nested rec.kind f ≡ true = ap (λ (b : Bool). b && (is_nesting rec.kind && not (is_some f.nested))) c.if-nested.true
    ∙ (ap (λ (b : Bool). b && not (is_some f.nested)) (sym c.is_nesting.ensures ∙ c.if-is_nesting.true)
    ∙ ap (λ (o : Option Nested). not (is_some o)) c.in-None.is) in
    let none : Option BreachKind = None in
    let B : Bool → Option BreachKind = λ b. cond b none (laid_breach (bounds_of case.limits) case.fresh code live stale rec (with_inputs inp (current f))) in
    let T : Bool → FrameTurn = λ b. frame_step code b (value_in rec.write) inp f in
    let F : Bool → Bool = λ b. fresh_after case.fresh (T b).kind (fetch_at code (current f).control.pc) (with_inputs inp (current f)).control.ps (current (T b).after).control.ps in
    (ap B starts, c.begin.ensures.state frames ∙ sym (ap (λ (b : Bool). (T b).after) starts), fresh_begun case.fresh (fetch_at code (current f).control.pc) (with_inputs inp (current f)) (with_inputs inp f) ∙ sym (ap F starts))

pub returns-then-is_nesting-clause-kept : goal.returns-then-is_nesting-clause-kept
returns-then-is_nesting-clause-kept c = λ frames live stale k on.
    let limits = c.args.case.now.limits in
    let seen : c.begin.new.view.seen ≡ c.args.view.now.seen = ap (λ (s : FrameState). s.seen) (c.begin.ensures.state frames) in
    let P : List (Option ℕ) → Type 0 = λ xs. Stack limits.lo limits.hi xs frames in
    (subst P (sym seen) on, Stays refl (ap (λ (xs : List (Option ℕ)). value_or_zero xs 1) seen))

pub returns-else-nested-clause-done : goal.returns-else-nested-clause-done
returns-else-nested-clause-done c = λ frames live stale k.
    let code = constant_byte c.args.code.now in
    let rec = c.args.rec.now in
    let f = state_at frames c.args.holes.now c.args.view.now in
    let off : begins c.args.nested rec.kind f ≡ false =
    elim c.else-nested.branch [
      | else-nested-via-then-nested+else-is_nesting w ↦ and_right c.args.nested _ (and_left (is_nesting rec.kind) _ (sym w.is_nesting.ensures ∙ w.if-is_nesting.false))
      | else-nested-via-else-nested w ↦ and_left c.args.nested _ w.if-nested.false
    ] in
    as_plain c.args.case.now code live stale c.args.nested rec f c.judge_plain.result (λ fs. state_at fs c.judge_plain.new.holes c.judge_plain.new.view) off (c.judge_plain.ensures.done frames live stale k)
