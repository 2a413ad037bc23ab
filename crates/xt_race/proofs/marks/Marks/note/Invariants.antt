use Rattle.xt_race.specs.Tables.{IsNoted}
use Rattle.xt_race.proofs.marks.Marks.note.Given as goal

abbrev pub invariant-loop-k : goal.invariant-loop-k
invariant-loop-k l = IsNoted l.note l.addr l.k l.initial.self l.self
