use Rattle.std.proofs.Common.{◌≡◌, drop}
use Rattle.xt_simulation.specs.WatchedRuns.{has_byte_at}
use Rattle.xt_secret_walk.proofs.bytes.has_byte_at.Given as goal

abbrev pub invariant-loop-range : goal.invariant-loop-range
invariant-loop-range l = has_byte_at l.ranges l.addr ≡ has_byte_at (drop l.range-index l.ranges) l.addr
