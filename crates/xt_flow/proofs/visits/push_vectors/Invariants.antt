use Rattle.std.proofs.Common.{◌≡◌, ◌+◌, ◌%◌, ◌^◌, ◌++◌, map, take}
use Rattle.xt_flow.proofs.visits.push_vectors.Given as goal

abbrev pub invariant-loop-offset : goal.invariant-loop-offset
invariant-loop-offset l = l.all.items ≡ l.initial.all.items ++ map (λ offset. (l.vecbase + offset) % 2 ^ 32) (take l.offset-index l.offsets)
