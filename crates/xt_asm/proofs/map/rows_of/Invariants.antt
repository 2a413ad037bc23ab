use Rattle.std.proofs.Common.{◌≡◌, filter, map, take}
use Rattle.xt_asm.specs.Maps.{counts, row_of}
use Rattle.xt_asm.proofs.map.rows_of.Given as goal

-- the rows so far
abbrev pub invariant-loop-label : goal.invariant-loop-label
invariant-loop-label l = l.rows.items ≡ map row_of (filter (counts l.labels) (take l.label-index l.label-items))
