use Rattle.std.proofs.Common.{◌≡◌, ◌++◌, take}
use Rattle.std.specs.List.{flat_map}
use Rattle.xt_asm.specs.Pieces.{short_bytes}
use Rattle.xt_asm.proofs.pieces.put_shorts.Given as goal

-- the bytes so far
abbrev pub invariant-loop-e : goal.invariant-loop-e
invariant-loop-e l = l.bytes.items ≡ l.initial.bytes.items ++ flat_map (short_bytes l.labels) (take l.e-index l.exprs)
