use Rattle.std.proofs.Common.{◌≡◌, take}
use Rattle.xt_map.specs.Memory.{with_words}
use Rattle.xt_bus.specs.States.{memory_state}
use Rattle.xt_bus.proofs.memory.Memory.put_words.Given as goal

abbrev pub invariant-loop-link : goal.invariant-loop-link
invariant-loop-link l = l.self ≡ memory_state (with_words l.initial.self.contents (take l.link-index l.words)) l.initial.self.room
