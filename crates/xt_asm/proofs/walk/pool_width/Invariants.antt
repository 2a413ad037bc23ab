use Rattle.std.proofs.Common.{◌≡◌, ◌+◌, drop}
use Rattle.std.specs.List.{prefix_len}
use Rattle.std.specs.Prelude.{◌==◌}
use Rattle.xt_layout.specs.declared.word.PoolWord.{PoolWord}
use Rattle.xt_asm.proofs.walk.pool_width.Given as goal

-- those so far are followed by those at the front of what is left
abbrev pub invariant-loop-i : goal.invariant-loop-i
invariant-loop-i l = prefix_len (λ (w : PoolWord). l.place == w.position) (drop l.i l.words) + l.i ≡ prefix_len (λ (w : PoolWord). l.place == w.position) l.words
