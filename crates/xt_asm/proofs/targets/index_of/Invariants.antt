use Rattle.std.proofs.Common.{◌≡◌, List, ℤ, drop, length}
use Rattle.std.specs.BTreeMap.{get}
use Rattle.std.specs.Prelude.{option_and_then, slice_get}
use Rattle.xt_asm.specs.Operands.{word_for}
use Rattle.xt_asm.specs.Uses.{Key, key_cmp}
use Rattle.xt_asm.proofs.targets.index_of.Given as goal

-- the numbers of the words that were gone through are known
abbrev pub invariant-loop-i : goal.invariant-loop-i
invariant-loop-i l = (addresses : List ℤ) → length addresses ≡ length l.words → (q : Key) →
    option_and_then (λ i. slice_get addresses i) (get key_cmp l.index q) ≡ word_for q.0 q.1.now (drop l.i l.words) (drop l.i addresses)
