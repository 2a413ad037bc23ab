use Rattle.std.proofs.Common.{◌≡◌, take}
use Rattle.std.specs.List.{flat_map}
use Rattle.xt_asm.specs.Maps.{row_line}
use Rattle.xt_asm.proofs.map.text_of.Given as goal

-- the lines so far
abbrev pub invariant-loop-row : goal.invariant-loop-row
invariant-loop-row l = l.text.items ≡ flat_map row_line (take l.row-index l.rows)
