use Rattle.std.proofs.Common.{◌≡◌, replicate}
use Rattle.xt_map.specs.Memory.{constant_byte}
use Rattle.xt_trace.specs.Short.{short_advance}
use Rattle.xt_exec.specs.Chips.{processor}
use Rattle.xt_machine.specs.Shorts.{world_of}
use Rattle.xt_machine.proofs.pair.Pair.finish0.Given as goal

-- what is left comes to the same world
abbrev pub invariant-turns : goal.invariant-turns
invariant-turns l =
    short_advance (processor (constant_byte l.code)) (replicate l.self.core0.left 0) (world_of l.self)
    ≡ short_advance (processor (constant_byte l.code)) (replicate l.fn.self.core0.left 0) (world_of l.fn.self)

abbrev pub decreases-turns : goal.decreases-turns
decreases-turns l = l.self.core0.left
