-- The moves that are left lead from here to where all lead from the opening.
use Rattle.std.proofs.Common.{◌≡◌, drop}
use Rattle.xt_map.specs.Memory.{constant_byte}
use Rattle.xt_moments.specs.Made.{world_of}
use Rattle.xt_moments.specs.Moments.{world_past}
use Rattle.xt_moments.proofs.outcome.world_past.Given as goal

abbrev pub invariant-loop-made : goal.invariant-loop-made
invariant-loop-made l =
    world_past (constant_byte l.code) (λ k. 0) (drop l.made-index l.order)
    (world_of l.opening.contents l.world)
    ≡ world_past (constant_byte l.code) (λ k. 0) l.order (world_of l.opening.contents l.fn.first)
