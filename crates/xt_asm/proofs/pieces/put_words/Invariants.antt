use Rattle.std.proofs.Common.{◌≡◌, ◌++◌, take}
use Rattle.std.specs.List.{flat_map}
use Rattle.xt_asm.specs.Pieces.{word_bytes}
use Rattle.xt_asm.proofs.pieces.put_words.Given as goal

-- the bytes so far
abbrev pub invariant-loop-e : goal.invariant-loop-e
invariant-loop-e l = l.bytes.items ≡ l.initial.bytes.items ++ flat_map (word_bytes l.labels) (take l.e-index l.exprs)
