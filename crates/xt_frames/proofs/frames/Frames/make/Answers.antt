use Rattle.std.proofs.Common.{◌+◌, ◌-◌, ◌/◌, ◌≤◌, true, List, sym, ◌∙◌, ap, arith, length, subst}
use Rattle.xt_trace.specs.declared.options.Stack.{Stack}
use Rattle.xt_frames.specs.Frames.{Frame, FrameState, all_set, opening_frame}
use Rattle.xt_frames.specs.KeptFrameState.{no_holes, state_at}
use Rattle.xt_frames.specs.Stacks.{IsRange}
use Rattle.xt_frames.specs.Walked.{Walked}
use Rattle.xt_frames.proofs.Kept.{kept_open}
use Rattle.xt_frames.proofs.Newest.{frames_none}
use Rattle.std.specs.Vec.{vec_capacity}
use Rattle.xt_frames.proofs.frames.Frames.make.Goals as goal

pub invariant_of-result : goal.invariant_of-result
invariant_of-result c =
    let s = c.stack_of-stack.result in
    let P : Stack → Type 0 = λ r. IsRange r.lo r.hi in
    let range : IsRange s.lo s.hi = subst P (sym c.stack_of-stack.ensures) c.requires.stack in
    let cap = c.in_ok-callers.ensures.capacity in
    let room : (s.hi - s.lo) / 16 + 2 ≤ vec_capacity c.in_ok-callers.callers = omega (arith, cap) in
    (kept_open s.lo s.hi c.open-view.result c.in_ok-callers.callers.items (vec_capacity c.in_ok-callers.callers) range (ap (λ (f : FrameState). f.seen) c.open-view.ensures) c.in_ok-callers.ensures.items room, tt)

pub returns : goal.returns
unfolding all_set
returns c =
    let s = c.stack_of-stack.result in
    let o = c.args.options.now in
    let F : FrameState → Walked = λ st. record { core = c.args.core; bounds = record { range = record { lo = s.lo; hi = s.hi }; vecbase = o.vecbase }; state = st; fresh = true; next = 0 } in
    let G : Stack → Walked = λ r. record { core = c.args.core; bounds = record { range = record { lo = r.lo; hi = r.hi }; vecbase = o.vecbase }; state = opening_frame c.args.core c.args.pc o.vecbase r.hi; fresh = true; next = 0 } in
    ap (λ (fs : List Frame). F (state_at fs no_holes c.open-view.result)) (frames_none c.in_ok-callers.callers.items (ap length c.in_ok-callers.ensures.items)) ∙ (ap F c.open-view.ensures ∙ ap G c.stack_of-stack.ensures)
