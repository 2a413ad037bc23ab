use Rattle.std.proofs.Common.{◌≡◌, drop}
use Rattle.xt_asm.specs.Images.{entry_of}
use Rattle.xt_asm.proofs.segments.entry_of.Given as goal

-- the entry is that of the lines to come
abbrev pub invariant-loop-line : goal.invariant-loop-line
invariant-loop-line l = entry_of l.labels (drop l.line-index l.lines) ≡ entry_of l.labels l.lines
