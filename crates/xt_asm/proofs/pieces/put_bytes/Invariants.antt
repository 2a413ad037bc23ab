use Rattle.std.proofs.Common.{◌≡◌, ◌++◌, take}
use Rattle.std.specs.Prelude.{map}
use Rattle.xt_asm.specs.Pieces.{byte_of}
use Rattle.xt_asm.proofs.pieces.put_bytes.Given as goal

-- the bytes so far
abbrev pub invariant-loop-e : goal.invariant-loop-e
invariant-loop-e l = l.bytes.items ≡ l.initial.bytes.items ++ map (byte_of l.labels) (take l.e-index l.exprs)
