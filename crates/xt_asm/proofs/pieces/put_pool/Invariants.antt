use Rattle.std.proofs.Common.{◌≡◌, ◌++◌, take}
use Rattle.std.specs.List.{flat_map}
use Rattle.xt_asm.specs.Pieces.{word_bytes}
use Rattle.xt_asm.proofs.pieces.put_pool.Given as goal

-- the bytes so far
abbrev pub invariant-loop-word : goal.invariant-loop-word
invariant-loop-word l = l.bytes.items ≡ l.initial.bytes.items ++ flat_map (λ w. word_bytes l.labels w.value) (take l.word-index l.pool)
