use Rattle.std.proofs.Common.{◌≡◌, ℕ, ◌≤◌, ◌+◌, ◌-◌, ◌/◌, ap, arith, length, subst}
use Rattle.std.specs.Vec.{vec_capacity}
use Rattle.xt_frames.specs.KeptFrameState.{AreKept}
use Rattle.xt_frames.proofs.Kept.{kept_room}
use Rattle.xt_frames.proofs.frames.Frames.reload.Goals as goal

pub put-requires : goal.put-requires
put-requires c =
    let old = c.self.inside in
    let s = c.copy.inside in
    let capacity = vec_capacity old.callers in
    let size : old.limits.hi - old.limits.lo ≡ s.limits.hi - s.limits.lo = c.if-self-copy.false in
    let room : (s.limits.hi - s.limits.lo) / 16 + 2 ≤ capacity = subst (λ (n : ℕ). n / 16 + 2 ≤ capacity) size c.self.invariant.0.room in
    let k : AreKept s.limits.lo s.limits.hi s.view s.callers.items capacity = record { stack = c.copy.invariant.0; room = room } in
    let less = kept_room s.limits.lo s.limits.hi s.view s.callers.items capacity k in
    let l : length c.deref.result.now ≡ length s.callers.items = ap length c.deref.ensures.value in
    omega (arith, less, l)
