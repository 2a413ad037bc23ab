use Rattle.std.proofs.Common.{◌≡◌, ◌+◌, ◌-◌}
use Rattle.xt_race.specs.Tables.{some_byte}
use Rattle.xt_race.specs.Clashes.{touches_memory}
use Rattle.xt_race.proofs.event.Event.shares_byte.Given as goal

abbrev pub invariant-loop-k : goal.invariant-loop-k
invariant-loop-k l =
    some_byte (touches_memory l.other) (l.self.entry.access.addr + l.k) (l.self.entry.access.size - l.k)
    ≡ some_byte (touches_memory l.other) l.self.entry.access.addr l.self.entry.access.size
