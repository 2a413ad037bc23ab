use Rattle.std.proofs.Common.{◌≡◌, take}
use Rattle.std.specs.Vec.{vec_capacity}
use Rattle.xt_frames.proofs.snapshots.put.Given as goal

abbrev pub invariant-loop-caller : goal.invariant-loop-caller
invariant-loop-caller l = (l.callers.items ≡ take l.caller-index l.items) × (vec_capacity l.callers ≡ vec_capacity l.initial.callers)
