use Rattle.std.proofs.Common.{◌+◌, ◌-◌, ◌/◌, ◌<◌, ◌≤◌, ℕ, true, All, List, [], sym, ◌∙◌, ap, arith, length, subst}
use Rattle.std.specs.Vec.{vec_capacity}
use Rattle.std.proofs.lemmas.List.Elements.{All-nil}
use Rattle.xt_trace.specs.declared.options.Stack.{Stack}
use Rattle.xt_frames.specs.Frames.{Frame, FrameState, all_set, opening_frame}
use Rattle.xt_frames.specs.KeptFrameState.{no_holes, state_at}
use Rattle.xt_frames.specs.Stacks.{IsRange}
use Rattle.xt_frames.proofs.Kept.{kept_open}
use Rattle.xt_frames.proofs.Newest.{frames_none}
use Rattle.xt_uses.specs.declared.masks.KeptMasks.{KeptMasks}
use Rattle.xt_uses.specs.UseState.{ValidityBits, whole_masks}
use Rattle.xt_uses.specs.UseParts.{UseWalked, kept_of, masks_at}
use Rattle.xt_uses.proofs.UseKept.{kept_none}
use Rattle.xt_uses.proofs.cores.UseCore.make.Goals as goal

pub invariant_of-result : goal.invariant_of-result
invariant_of-result c =
    let s = c.stack_of-stack.result in
    let P : Stack → Type 0 = λ r. IsRange r.lo r.hi in
    let range : IsRange s.lo s.hi = subst P (sym c.stack_of-stack.ensures) c.requires.stack in
    let cap = c.in_ok-callers.ensures.capacity in
    let room : (s.hi - s.lo) / 16 + 2 ≤ vec_capacity c.in_ok-callers.callers = omega (arith, cap) in
    let few = subst (λ (ks : List KeptMasks). All (λ k. k.by < 4) ks) (sym c.in_ok-kept.ensures.items) (All-nil (λ (k : KeptMasks). k.by < 4)) in
    (kept_open s.lo s.hi c.open.result c.in_ok-callers.callers.items (vec_capacity c.in_ok-callers.callers) range (ap (λ (f : FrameState). f.seen) c.open.ensures) c.in_ok-callers.ensures.items room, tt, few)

pub returns : goal.returns
unfolding all_set
returns c =
    let s = c.stack_of-stack.result in
    let o = c.args.options.now in
    let F : FrameState → ValidityBits → UseWalked = λ st m. record { core = c.args.core; bounds = record { range = record { lo = s.lo; hi = s.hi }; vecbase = o.vecbase }; state = record { frame = st; masks = m }; fresh = true; next = 0 } in
    let G : Stack → ValidityBits → UseWalked = λ r m. record { core = c.args.core; bounds = record { range = record { lo = r.lo; hi = r.hi }; vecbase = o.vecbase }; state = record { frame = opening_frame c.args.core c.args.pc o.vecbase r.hi; masks = m }; fresh = true; next = 0 } in
    let top = c.whole.result in
    let kept = kept_of c.in_ok-kept.kept.items in
    ap (λ (fs : List Frame). F (state_at fs no_holes c.open.result) (masks_at kept top)) (frames_none c.in_ok-callers.callers.items (ap length c.in_ok-callers.ensures.items))
    ∙ (ap (λ (ks : List (List ℕ)). F (state_at [] no_holes c.open.result) (masks_at ks top)) (kept_none c.in_ok-kept.kept.items (ap length c.in_ok-kept.ensures.items))
    ∙ (ap (λ (m : ValidityBits). F (state_at [] no_holes c.open.result) m) c.whole.ensures
    ∙ (ap (λ (st : FrameState). F st (whole_masks c.args.discipline)) c.open.ensures ∙ ap (λ (r : Stack). G r (whole_masks c.args.discipline)) c.stack_of-stack.ensures)))
