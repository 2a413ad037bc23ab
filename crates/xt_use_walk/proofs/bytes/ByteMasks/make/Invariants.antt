use Rattle.std.proofs.Common.{◌≡◌, ℕ, replicate}
use Rattle.xt_use_walk.proofs.bytes.ByteMasks.make.Given as goal

abbrev pub invariant-loop-byte : goal.invariant-loop-byte
invariant-loop-byte l = l.masks.items ≡ replicate {A = ℕ} l._byte 255
