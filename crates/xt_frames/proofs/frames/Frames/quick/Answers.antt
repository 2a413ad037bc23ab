use Rattle.std.proofs.Common.{◌≡◌, ℕ, ◌+◌, Bool, None, refl, sym, ◌∙◌, ap, subst}
use Rattle.std.specs.Vec.{vec_capacity}
use Rattle.xt_map.specs.Memory.{constant_byte}
use Rattle.xt_frames.specs.KeptFrameState.{frames_of, state_at}
use Rattle.xt_frames.specs.Stacks.{Moves}
use Rattle.xt_frames.specs.Walked.{Walked, bounds_of, found_in, walked_past}
use Rattle.xt_frames.proofs.Quickly.{IsOver, none_is, quick_judged, quick_kept, quick_moves}
use Rattle.xt_frames.proofs.frames.Frames.quick.Goals as goal

pub invariant_of-self : goal.invariant_of-self
invariant_of-self c =
    let i = c.self.inside in
    let code = constant_byte c.args.code.now in
    let rec = c.args.rec.now in
    let x = c.quick.new.self in
    let fresh = c.is_fresh-fresh.result in
    let write = c.in-Some.field-0 in
    let q = c.quick.ensures.quick write c.in-Some.is in
    let k : IsOver i.limits fresh code rec i.holes write i.view q.0 x = record { plain = none_is i.holes.nested (sym c.is_some.ensures ∙ c.if-is_some.false); over = q.1; quick = q.2 } in
    (quick_kept i.limits fresh code rec i.holes write i.view q.0 x k i.limits.lo i.limits.hi i.callers.items (vec_capacity i.callers) c.self.invariant.0, c.self.invariant.1)

pub returns-in-Some-clause-judged : goal.returns-in-Some-clause-judged
returns-in-Some-clause-judged c = λ made live dead saves stale.
    let i = c.self.inside in
    let code = constant_byte c.args.code.now in
    let rec = c.args.rec.now in
    let x = c.quick.new.self in
    let fresh = c.is_fresh-fresh.result in
    let write = c.in-Some.field-0 in
    let q = c.quick.ensures.quick write c.in-Some.is in
    let k : IsOver i.limits fresh code rec i.holes write i.view q.0 x = record { plain = none_is i.holes.nested (sym c.is_some.ensures ∙ c.if-is_some.false); over = q.1; quick = q.2 } in
    let w = c.args.self.now in
    let frames = frames_of i.callers.items in
    let N : ℕ → Walked = λ n. record { core = i.core; bounds = bounds_of i.limits; state = state_at frames i.holes x; fresh = fresh; next = n + 1 } in
    let P : Bool → Type 0 = λ b. (found_in w code live dead c.args.index b rec ≡ None) × (N c.args.index ≡ walked_past w code c.args.index b rec) in
    let judged = quick_judged i.limits fresh code rec i.holes write i.view q.0 x k i.core i.next c.args.index i.fresh frames live dead w c.is_fresh-fresh.ensures c.self.view_is (saves ∙ c.if-saves.false) (stale ∙ c.if-stale.false) in
    let as_asked = subst P (sym c.if-nested.false) judged in
    (as_asked.0, ap N c.from.ensures ∙ as_asked.1)

pub returns-in-Some-clause-moves : goal.returns-in-Some-clause-moves
returns-in-Some-clause-moves c = λ made.
    let i = c.self.inside in
    let code = constant_byte c.args.code.now in
    let rec = c.args.rec.now in
    let x = c.quick.new.self in
    let fresh = c.is_fresh-fresh.result in
    let write = c.in-Some.field-0 in
    let q = c.quick.ensures.quick write c.in-Some.is in
    let k : IsOver i.limits fresh code rec i.holes write i.view q.0 x = record { plain = none_is i.holes.nested (sym c.is_some.ensures ∙ c.if-is_some.false); over = q.1; quick = q.2 } in
    let frames = frames_of i.callers.items in
    let M : Walked → Type 0 = λ y. Moves y.state (state_at frames i.holes x) in
    subst M c.self.view_is (quick_moves i.limits fresh code rec i.holes write i.view q.0 x k frames)

pub returns-in-Some-clause-frames : goal.returns-in-Some-clause-frames
returns-in-Some-clause-frames c = λ made.
    let i = c.self.inside in
    let frames = frames_of i.callers.items in
    let F : Walked → Type 0 = λ y. frames ≡ y.state.frames in
    subst F c.self.view_is refl
