use Rattle.std.specs.Prelude.{is_some}
use Rattle.std.proofs.Common.{◌≡◌, ◌&&◌, ◌<◌, ℕ, true, false, not, ltb, List, [], ◌∷◌, Option, Some, None, refl, sym, ◌∙◌, ap, subst}
use Rattle.std.proofs.lemmas.Bool.{and_parts, cond-true, cond-false}
use Rattle.xt_isa.specs.declared.Insn.{Insn}
use Rattle.xt_isa.specs.Ranges.{in_range}
use Rattle.xt_special.specs.Interrupts.{pending_of}
use Rattle.xt_map.specs.Fetching.{Fetches, fetch_at}
use Rattle.xt_map.specs.Memory.{constant_byte}
use Rattle.xt_frames.specs.declared.view.NextEvent.{NextEvent}
use Rattle.xt_frames.specs.Frames.{FrameState}
use Rattle.xt_frames.specs.FrameStep.{FrameTurn, with_inputs, step_with_inputs}
use Rattle.xt_frames.specs.Nesting.{begins, current, is_nesting}
use Rattle.xt_frames.specs.Breaches.{inputs_of}
use Rattle.xt_frames.specs.Judging.{value_in}
use Rattle.xt_frames.specs.KeptFrameState.{IsPlan, Upper, frames_after, state_at}
use Rattle.xt_frames.specs.Stacks.{Stack}
use Rattle.xt_frames.specs.Walked.{bounds_of}
use Rattle.xt_frames.proofs.TestRows.{plan_ranges}
use Rattle.xt_uses.specs.declared.masks.KeptMasks.{KeptMasks}
use Rattle.xt_uses.specs.declared.stepping.Done.{Done}
use Rattle.xt_uses.specs.UseState.{UseState}
use Rattle.xt_uses.specs.UseStep.{UseTurn, movsp_of, turn_or}
use Rattle.xt_uses.specs.UseBreaches.{laid_use}
use Rattle.xt_uses.specs.UseParts.{IsNewestMasks, UseMoves, Stands, kept_after, kept_mask, use_at}
use Rattle.xt_uses.proofs.UseBegins.{carries_begun, fresh_begins, step_begun}
use Rattle.xt_uses.proofs.UseSteps.{settled_is_value}
use Rattle.xt_uses.proofs.UseStepChains.{keeps_all}
use Rattle.xt_uses.proofs.stepping.Top.judge.Goals as goal

-- ---- a nested interrupt begins
pub returns-then-begins-clause-done : goal.returns-then-begins-clause-done
returns-then-begins-clause-done c = λ frames kept live bytes case touched newest.
    let code = constant_byte c.args.code.now in
    let rec = c.args.rec.now in
    let nested = c.args.nested in
    let top = c.args.self.now in
    let fresh = c.args.case.now.fresh in
    let s = use_at frames kept top.holes top.view top.masks in
    let on : begins nested rec.kind s.frame ≡ true = sym (c.begins.ensures frames top.view) ∙ c.if-begins.true in
    let inner : begins true rec.kind s.frame ≡ true = (and_parts nested (is_nesting rec.kind && not (is_some s.frame.nested)) on).1 in
    let end = c.begin.new.self in
    let D : Done → UseState = λ d. use_at (frames_after d.call frames) (kept_after d.keep kept) end.holes end.view end.masks in
    let e = c.begin.ensures.done in
    let step = step_begun code nested rec bytes s on in
    let left = ap D e ∙ (c.begin.ensures.state frames kept code bytes inner ∙ ap (λ (u : UseTurn). u.after) (step_begun code true rec bytes s inner ∙ sym step)) in (
      cond-true (begins nested rec.kind s.frame) None _ on,
      record {
        state = left;
        epc1 = ap (λ (d : Done). d.fresh) e ∙ fresh_begins fresh code nested rec bytes s on;
        stores = ap (λ (d : Done). d.stored) e ∙ sym (ap (λ (u : UseTurn). u.stored) step);
        unknown = ap (λ (d : Done). d.carries) e ∙ sym (carries_begun code nested rec bytes s on c.requires.access);
      },
    )

-- ---- a breach
pub returns-in-Some-clause-done : goal.returns-in-Some-clause-done
returns-in-Some-clause-done c = λ frames kept live bytes case touched newest.
    let code = constant_byte c.args.code.now in
    let rec = c.args.rec.now in
    let top = c.args.self.now in
    let b = bounds_of c.args.case.now.limits in
    let fresh = c.args.case.now.fresh in
    let s = use_at frames kept top.holes top.view top.masks in
    let off : begins c.args.nested rec.kind s.frame ≡ false = sym (c.begins.ensures frames top.view) ∙ c.if-begins.false in
    let m = c.make-made.ensures in
    let found = c.use_breach-found.ensures code frames kept top.view live bytes case touched m.plan (m.turn frames top.holes case.newest) in
    (cond-false (begins c.args.nested rec.kind s.frame) None _ off ∙ (ap (laid_use b fresh code live bytes rec s) (sym (m.found frames)) ∙ (sym found ∙ c.in-Some.is)), refl)

-- ---- a step that is taken
-- masks of callers with these as the newest
some_masks : (o : Option KeptMasks) → (kept : List (List ℕ)) × IsNewestMasks o kept
some_masks None = ([], refl)
some_masks (Some k) = (kept_mask k ∷ [], refl)

pub take-requires-clause-plan : goal.take-requires-clause-plan
take-requires-clause-plan c =
    let code = constant_byte c.args.code.now in
    let m = c.make-made.result in
    let P : NextEvent → Upper → Type 0 = λ p v. IsPlan p code v.control in
    subst (λ (p : NextEvent). P p c.move_stack.new.self.before) (sym c.move_stack.ensures.plan) (subst (P m.plan) (sym c.move_stack.ensures.before) c.make-made.ensures.plan)

pub returns-clause-done : goal.returns-clause-done
returns-clause-done c = λ frames kept live bytes case touched newest.
    let code = constant_byte c.args.code.now in
    let rec = c.args.rec.now in
    let top = c.args.self.now in
    let h = top.holes in
    let b = bounds_of c.args.case.now.limits in
    let fresh = c.args.case.now.fresh in
    let s = use_at frames kept h top.view top.masks in
    let off : begins c.args.nested rec.kind s.frame ≡ false = sym (c.begins.ensures frames top.view) ∙ c.if-begins.false in
    let m = c.make-made.ensures in
    let first = c.make-made.result in
    let moved = c.move_stack.new.self in
    let none = c.use_breach-found.ensures code frames kept top.view live bytes case touched m.plan (m.turn frames h case.newest) in
    let same = ap (state_at frames h) c.move_stack.ensures.before in
    let found = same ∙ m.found frames in
    let T : FrameState → FrameTurn = λ x. turn_or (movsp_of code x) (step_with_inputs code rec.reply x) in
    let turn = c.move_stack.ensures.turn code frames m.plan
    ∙ (ap (λ (u : FrameTurn). turn_or (movsp_of code (state_at frames h first.before)) u) (m.turn frames h case.newest) ∙ sym (ap T same)) in
    let value = settled_is_value h.nested code (value_in rec.write) rec frames h top.view moved refl found turn in (
      cond-false (begins c.args.nested rec.kind s.frame) None _ off ∙ (ap (laid_use b fresh code live bytes rec s) (sym (m.found frames)) ∙ (sym none ∙ c.in_default.is)),
      c.take.ensures.taken c.args.nested frames kept bytes case.newest newest touched.reply off found value,
    )

pub returns-clause-kept : goal.returns-clause-kept
returns-clause-kept c = λ frames live bytes case touched stack.
    let code = constant_byte c.args.code.now in
    let rec = c.args.rec.now in
    let top = c.args.self.now in
    let h = top.holes in
    let b = bounds_of c.args.case.now.limits in
    let fresh = c.args.case.now.fresh in
    let some = some_masks c.args.newest.now in
    let s = use_at frames some.0 h top.view top.masks in
    let off : begins c.args.nested rec.kind s.frame ≡ false = sym (c.begins.ensures frames top.view) ∙ c.if-begins.false in
    let m = c.make-made.ensures in
    let first = c.make-made.result in
    let g = with_inputs (inputs_of rec) (current s.frame) in
    let here : state_at frames h first.before ≡ g = m.found frames in
    let none = ap (laid_use b fresh code live bytes rec s) (sym here) ∙ (sym (c.use_breach-found.ensures code frames some.0 top.view live bytes case touched m.plan (m.turn frames h case.newest)) ∙ c.in_default.is) in
    let calls : g.control.ps.callinc < 4 = subst (λ (x : FrameState). x.control.ps.callinc < 4) here m.callinc in
    let P : FrameState → Type 0 = λ x. (i : Insn) (len : ℕ) → ltb 0 (pending_of x.control) ≡ false → x.control.waits ≡ false → fetch_at code x.control.pc ≡ Fetches i len → in_range i ≡ true in
    let ranges : P g = subst P here (plan_ranges first.plan code first.before.control m.plan) in
    let all = keeps_all b fresh code live bytes c.args.nested rec s off stack h.nested refl calls ranges none in
    let done = (returns-clause-done c frames some.0 live bytes case touched some.1).1 in
    let frame = ap (λ (x : UseState). x.frame) done.state in
    let K : FrameState → Type 0 = λ t. Stack b.range.lo b.range.hi t.seen t.frames × UseMoves s.frame t in
    subst K (sym frame) all

pub returns-then-begins-clause-kept : goal.returns-then-begins-clause-kept
returns-then-begins-clause-kept c = λ frames live bytes case touched stack.
    let top = c.args.self.now in
    let lo = c.args.case.now.limits.lo in
    let hi = c.args.case.now.limits.hi in
    let f = state_at frames top.holes top.view in
    let some = some_masks c.args.newest.now in
    let done = (returns-then-begins-clause-done c frames some.0 live bytes case touched some.1).1 in
    let rec = c.args.rec.now in
    let code = constant_byte c.args.code.now in
    let s = use_at frames some.0 top.holes top.view top.masks in
    let on : begins c.args.nested rec.kind s.frame ≡ true = sym (c.begins.ensures frames top.view) ∙ c.if-begins.true in
    let frame = ap (λ (x : UseState). x.frame) (done.state ∙ ap (λ (u : UseTurn). u.after) (step_begun code c.args.nested rec bytes s on)) in
    let K : FrameState → Type 0 = λ t. Stack lo hi t.seen t.frames × UseMoves f t in
    subst K (sym frame) (stack, Stands refl)
