use Rattle.std.proofs.Common.{◌≡◌, ◌+◌, ◌-◌}
use Rattle.std.specs.Prelude.{nat_lt}
use Rattle.xt_race.specs.Tables.{mark_at, rival_of, some_byte}
use Rattle.xt_race.proofs.marks.Marks.has_rival.Given as goal

abbrev pub invariant-loop-k : goal.invariant-loop-k
invariant-loop-k l =
    some_byte (λ a. nat_lt l.seen (rival_of l.note (mark_at l.self a))) (l.addr + l.k) (l.size - l.k)
    ≡ some_byte (λ a. nat_lt l.seen (rival_of l.note (mark_at l.self a))) l.addr l.size
