use Rattle.std.proofs.Common.{◌≡◌, take}
use Rattle.xt_map.specs.Memory.{with_segments}
use Rattle.xt_bus.specs.States.{memory_state}
use Rattle.xt_bus.proofs.memory.Memory.put_segments.Given as goal

abbrev pub invariant-loop-segment : goal.invariant-loop-segment
invariant-loop-segment l = l.self ≡ memory_state (with_segments l.initial.self.contents (take l.segment-index l.segments)) l.initial.self.room
