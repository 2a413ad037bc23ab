use Rattle.std.proofs.Common.{◌≡◌, ◌++◌, map, take, slice_index}
use Rattle.xt_record.specs.Fields.{words}
use Rattle.xt_record.proofs.points.put_registers.Given as goal

abbrev pub invariant-loop-number : goal.invariant-loop-number
invariant-loop-number l = l.out.items ≡ l.fn.out.items ++ words (map (slice_index l.special.file) (take l.number-index l.numbers))
