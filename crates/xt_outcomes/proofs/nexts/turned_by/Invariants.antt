-- The turns that are left lead from here to where all lead from the opening.
use Rattle.std.proofs.Common.{◌≡◌, drop}
use Rattle.xt_map.specs.Memory.{constant_byte}
use Rattle.xt_exec.specs.Chips.{processor}
use Rattle.xt_outcomes.specs.KeptWorlds.{spot_of}
use Rattle.xt_outcomes.specs.Spots.{spot_after}
use Rattle.xt_outcomes.proofs.nexts.turned_by.Given as goal

abbrev pub invariant-loop-core : goal.invariant-loop-core
invariant-loop-core l =
    spot_after (processor (constant_byte l.machine.code)) l.machine.timed (drop l.core-index l.order) (spot_of l.machine.opening.contents l.world)
    ≡ spot_after (processor (constant_byte l.machine.code)) l.machine.timed l.order (spot_of l.machine.opening.contents l.fn.opening)
