use Rattle.std.proofs.Common.{◌≡◌, ◌++◌, map, slice_index}
use Rattle.std.specs.List.{range_with_len}
use Rattle.xt_record.specs.Fields.{words}
use Rattle.xt_record.proofs.points.put_file.Given as goal

abbrev pub invariant-loop-i : goal.invariant-loop-i
invariant-loop-i l = record {
  out : l.out.items ≡ l.fn.out.items ++ words (map (slice_index l.fn.win.regs) (range_with_len 0 l.i));
  regs : l.win.regs ≡ l.fn.win.regs;
}
