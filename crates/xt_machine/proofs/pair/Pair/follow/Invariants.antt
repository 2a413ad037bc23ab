use Rattle.std.proofs.Common.{◌≡◌, take}
use Rattle.xt_map.specs.Memory.{constant_byte}
use Rattle.xt_trace.specs.Short.{short_advance}
use Rattle.xt_exec.specs.Chips.{processor}
use Rattle.xt_machine.specs.Shorts.{world_of}
use Rattle.xt_machine.proofs.pair.Pair.follow.Given as goal

abbrev pub invariant-loop-core : goal.invariant-loop-core
invariant-loop-core l = world_of l.self ≡ short_advance (processor (constant_byte l.code)) (take l.core-index l.schedule) (world_of l.fn.self)
