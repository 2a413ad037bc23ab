use Rattle.std.specs.Prelude.{is_some}
use Rattle.std.proofs.Common.{ℕ, [], Option, sym, ◌∙◌, ap, subst}
use Rattle.xt_trace.specs.declared.record.StepKind.{StepKind}
use Rattle.xt_frames.specs.FrameStep.{FrameTurn}
use Rattle.xt_frames.specs.KeptFrameState.{IsKindOf, state_at, turn_as}
use Rattle.xt_uses.specs.UseStep.{stack_moved, turn_or}
use Rattle.xt_uses.proofs.UsePlans.{as_moved, planned_kind, planned_moves}
use Rattle.xt_uses.proofs.stepping.Made.move_stack.Goals as goal

pub returns-in-Some-clause-turn : goal.returns-in-Some-clause-turn
returns-in-Some-clause-turn c = λ code frames k.
    let old = c.args.self.now in
    let h = c.args.holes.now in
    let g = state_at frames h old.before in
    let u = turn_as old.step frames h old.after in
    let moves = planned_moves old.plan code g k ∙ ap (λ (o : Option (ℕ × ℕ × ℕ)). as_moved o g) (sym c.stack_move.ensures.movsp ∙ c.in-Some.is) in
    c.move_stack-self.ensures.turn frames h
    ∙ (ap (λ (n : ℕ). stack_moved c.in-Some.t n c.in-Some.len g) c.value_or_zero.ensures
    ∙ sym (ap (λ (o : Option FrameTurn). turn_or o u) moves))

pub returns-in-Some-clause-kind : goal.returns-in-Some-clause-kind
returns-in-Some-clause-kind c =
    let old = c.args.self.now in
    let h = c.args.holes.now in
    let kinds = ap (λ (u : FrameTurn). u.kind) (c.move_stack-self.ensures.turn [] h) in
    subst (λ (k : StepKind). IsKindOf old.plan k) (sym kinds) (planned_kind old.plan (is_some h.nested) (c.in-Some.t, c.in-Some.s, c.in-Some.len) (sym c.stack_move.ensures.movsp ∙ c.in-Some.is))

pub returns-in_default-clause-turn : goal.returns-in_default-clause-turn
returns-in_default-clause-turn c = λ code frames k.
    let old = c.args.self.now in
    let h = c.args.holes.now in
    let g = state_at frames h old.before in
    let u = turn_as old.step frames h old.after in
    let moves = planned_moves old.plan code g k ∙ ap (λ (o : Option (ℕ × ℕ × ℕ)). as_moved o g) (sym c.stack_move.ensures.movsp ∙ c.in_default.is) in
    sym (ap (λ (o : Option FrameTurn). turn_or o u) moves)
