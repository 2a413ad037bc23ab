use Rattle.std.proofs.Common.{◌≡◌, take}
use Rattle.xt_map.specs.Memory.{with_bytes}
use Rattle.xt_bus.specs.States.{memory_state}
use Rattle.xt_bus.proofs.memory.Memory.put_bytes.Given as goal

abbrev pub invariant-loop-i : goal.invariant-loop-i
invariant-loop-i l = l.self ≡ memory_state (with_bytes l.initial.self.contents l.addr (take l.i l.bytes)) l.initial.self.room
