use Rattle.std.proofs.Common.{◌≡◌, ◌++◌, drop}
use Rattle.std.specs.Prelude.{zip}
use Rattle.xt_asm.specs.Images.{content}
use Rattle.xt_asm.proofs.segments.content.Given as goal

-- the bytes so far, and those of the lines to come
abbrev pub invariant-loop-k : goal.invariant-loop-k
invariant-loop-k l = l.bytes.items ++ content (zip (drop l.k l.lines) (drop l.k l.pieces)) ≡ content (zip l.lines l.pieces)
