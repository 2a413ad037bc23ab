use Rattle.std.proofs.Common.{◌≡◌, ℕ, ◌+◌, Bool, Option, List, refl, sym, ◌∙◌, ap, arith, subst}
use Rattle.std.specs.Vec.{vec_capacity}
use Rattle.xt_map.specs.Memory.{constant_byte}
use Rattle.xt_frames.specs.declared.kinds.BreachKind.{BreachKind}
use Rattle.xt_frames.specs.Frames.{Frame, FrameState}
use Rattle.xt_frames.specs.SaveAreas.{before}
use Rattle.xt_frames.specs.Breaches.{Bounds, breach_of}
use Rattle.xt_frames.specs.Judging.{fresh_on, step_on}
use Rattle.xt_frames.specs.KeptFrameState.{AreKept, IsCase, IsNewest, Upper, frames_of, state_at}
use Rattle.xt_frames.specs.Stacks.{Moves, Stack}
use Rattle.xt_frames.specs.Walked.{Walked, bounds_of, fresh_before}
use Rattle.xt_frames.proofs.Kept.{kept_room}
use Rattle.xt_frames.proofs.frames.Frames.judge_whole.Goals as goal

pub change-requires : goal.change-requires
change-requires c =
    let i = c.self.inside in
    let room = kept_room i.limits.lo i.limits.hi i.view i.callers.items (vec_capacity i.callers) c.self.invariant.0 in
    let ok = i.callers.ok in
    omega (arith, room, ok)

pub invariant_of-self-in-Err : goal.invariant_of-self-in-Err
invariant_of-self-in-Err c =
    let i = c.self.inside in
    let e = c.case-case.ensures in
    let case = c.case-case.result in
    let frames = frames_of i.callers.items in
    let N : Walked → Type 0 = λ v. IsNewest case.newest v.state.frames in
    let U : Walked → Type 0 = λ v. case.under ≡ before case.limits.hi v.state.frames in
    let live = c.requires.0 in
    let dead = c.requires.1 in
    let k : IsCase case c.args.rec.now frames live dead = record { saves = c.requires.2 ∙ sym e.saves; stale_load = c.requires.3 ∙ sym e.stale; newest = subst N (sym c.self.view_is) e.newest; under = subst U (sym c.self.view_is) e.under } in
    let done = c.in-Err.ensures.done frames live dead k in
    let K : Upper → Type 0 = λ v. AreKept i.limits.lo i.limits.hi v i.callers.items (vec_capacity i.callers) in
    (subst K (sym (ap (λ (s : FrameState). record { seen = s.seen; control = s.control }) done.1)) c.self.invariant.0, c.in-Err.ensures.ps)

pub returns-in-Ok-clause-judged : goal.returns-in-Ok-clause-judged
returns-in-Ok-clause-judged c = λ live dead saves stale.
    let i = c.self.inside in
    let w = c.args.self.now in
    let code = constant_byte c.args.code.now in
    let rec = c.args.rec.now in
    let nested = c.args.nested in
    let e = c.case-case.ensures in
    let case = c.case-case.result in
    let frames = frames_of i.callers.items in
    let N : Walked → Type 0 = λ v. IsNewest case.newest v.state.frames in
    let U : Walked → Type 0 = λ v. case.under ≡ before case.limits.hi v.state.frames in
    let k : IsCase case rec frames live dead = record { saves = saves ∙ sym e.saves; stale_load = stale ∙ sym e.stale; newest = subst N (sym c.self.view_is) e.newest; under = subst U (sym c.self.view_is) e.under } in
    let done = c.in-Ok.ensures.done frames live dead k in
    let new = c.judge.new.view in
    let h = c.judge.new.holes in
    let old = state_at frames i.holes i.view in
    let B : Bounds → Bool → FrameState → Option BreachKind = λ b fresh s. breach_of b fresh code live dead nested rec s in
    let found = ap (λ (b : Bounds). B b (fresh_before w c.args.index) w.state) (sym e.bounds)
    ∙ (ap (λ (fresh : Bool). B (bounds_of case.limits) fresh w.state) (sym e.fresh)
    ∙ (ap (λ (v : Walked). B (bounds_of case.limits) case.fresh v.state) (sym c.self.view_is) ∙ done.0)) in
    let R : FrameState → Bool → ℕ → Walked = λ s fresh n. record { core = i.core; bounds = bounds_of i.limits; state = s; fresh = fresh; next = n + 1 } in
    let after = (step_on code nested rec old).after in
    let past = ap (λ (fs : List Frame). R (state_at fs h new) c.in-Ok.done.fresh c.from.result) c.change.ensures.frames
    ∙ (ap (λ (s : FrameState). R s c.in-Ok.done.fresh c.from.result) done.1
    ∙ (ap (λ (fresh : Bool). R after fresh c.from.result) (done.2 ∙ ap (λ (fresh : Bool). fresh_on fresh code nested rec old) e.fresh)
    ∙ (ap (λ (n : ℕ). R after (fresh_on (fresh_before w c.args.index) code nested rec old) n) c.from.ensures
    ∙ ap (λ (v : Walked). record v { state = (step_on code nested rec v.state).after; fresh = fresh_on (fresh_before w c.args.index) code nested rec v.state; next = c.args.index + 1 }) c.self.view_is))) in
    (found, past)

pub returns-in-Ok-clause-moves : goal.returns-in-Ok-clause-moves
returns-in-Ok-clause-moves c =
    let i = c.self.inside in
    let e = c.case-case.ensures in
    let case = c.case-case.result in
    let frames = frames_of i.callers.items in
    let N : Walked → Type 0 = λ v. IsNewest case.newest v.state.frames in
    let U : Walked → Type 0 = λ v. case.under ≡ before case.limits.hi v.state.frames in
    let live = c.requires.0 in
    let dead = c.requires.1 in
    let k : IsCase case c.args.rec.now frames live dead = record { saves = c.requires.2 ∙ sym e.saves; stale_load = c.requires.3 ∙ sym e.stale; newest = subst N (sym c.self.view_is) e.newest; under = subst U (sym c.self.view_is) e.under } in
    let S : Bounds → Type 0 = λ b. Stack b.range.lo b.range.hi i.view.seen frames in
    let bounds : bounds_of i.limits ≡ bounds_of case.limits = ap (λ (v : Walked). v.bounds) c.self.view_is ∙ sym e.bounds in
    let kept = c.in-Ok.ensures.kept frames live dead k (subst S bounds c.self.invariant.0.stack) in
    let new = c.judge.new.view in
    let h = c.judge.new.holes in
    let F : List Frame → Type 0 = λ fs. Moves (state_at frames i.holes i.view) (state_at fs h new) in
    let W : Walked → Type 0 = λ v. Moves v.state (state_at (frames_of c.change.new.callers.items) h new) in
    subst W c.self.view_is (subst F (sym c.change.ensures.frames) kept.1)

pub returns-in-Err-clause-judged : goal.returns-in-Err-clause-judged
returns-in-Err-clause-judged c = λ live dead saves stale.
    let i = c.self.inside in
    let w = c.args.self.now in
    let code = constant_byte c.args.code.now in
    let rec = c.args.rec.now in
    let nested = c.args.nested in
    let e = c.case-case.ensures in
    let case = c.case-case.result in
    let frames = frames_of i.callers.items in
    let N : Walked → Type 0 = λ v. IsNewest case.newest v.state.frames in
    let U : Walked → Type 0 = λ v. case.under ≡ before case.limits.hi v.state.frames in
    let k : IsCase case rec frames live dead = record { saves = saves ∙ sym e.saves; stale_load = stale ∙ sym e.stale; newest = subst N (sym c.self.view_is) e.newest; under = subst U (sym c.self.view_is) e.under } in
    let done = c.in-Err.ensures.done frames live dead k in
    let B : Bounds → Bool → FrameState → Option BreachKind = λ b fresh s. breach_of b fresh code live dead nested rec s in
    let found = ap (λ (b : Bounds). B b (fresh_before w c.args.index) w.state) (sym e.bounds)
    ∙ (ap (λ (fresh : Bool). B (bounds_of case.limits) fresh w.state) (sym e.fresh)
    ∙ (ap (λ (v : Walked). B (bounds_of case.limits) case.fresh v.state) (sym c.self.view_is) ∙ done.0)) in
    let same = ap (λ (s : FrameState). record { core = i.core; bounds = bounds_of i.limits; state = s; fresh = i.fresh; next = i.next }) done.1 ∙ c.self.view_is in
    ((found, ap (λ (v : Walked). v.core) c.self.view_is, refl), same)
