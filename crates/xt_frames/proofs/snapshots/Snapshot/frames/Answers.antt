use Rattle.std.proofs.Common.{◌≡◌, ap, arith, length}
use Rattle.std.specs.Vec.{vec_capacity}
use Rattle.xt_frames.specs.KeptFrameState.{AreKept}
use Rattle.xt_frames.proofs.Kept.{kept_room}
use Rattle.xt_frames.proofs.snapshots.Snapshot.frames.Goals as goal

pub put-requires : goal.put-requires
put-requires c =
    let s = c.self.inside in
    let capacity = vec_capacity c.in_ok-callers.callers in
    let e = c.in_ok-callers.ensures.exact in
    let k : AreKept s.limits.lo s.limits.hi s.view s.callers.items capacity = record { stack = c.self.invariant.0; room = omega (arith, e) } in
    let less = kept_room s.limits.lo s.limits.hi s.view s.callers.items capacity k in
    let l : length c.deref.result.now ≡ length s.callers.items = ap length c.deref.ensures.value in
    omega (arith, less, l)
