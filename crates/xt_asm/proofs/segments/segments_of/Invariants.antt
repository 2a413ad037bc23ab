use Rattle.std.proofs.Common.{◌≡◌, ◌++◌, drop}
use Rattle.std.specs.Prelude.{zip}
use Rattle.xt_asm.specs.Images.{segments_of}
use Rattle.xt_asm.proofs.segments.segments_of.Given as goal

-- the segments so far, and those that the lines to come begin
abbrev pub invariant-loop-k : goal.invariant-loop-k
invariant-loop-k l = l.segments.items ++ segments_of (zip (drop l.k l.lines) (drop l.k l.pieces)) ≡ segments_of (zip l.lines l.pieces)
