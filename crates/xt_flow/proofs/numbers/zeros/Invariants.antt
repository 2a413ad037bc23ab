use Rattle.std.proofs.Common.{◌≡◌, ◌+◌, drop}
use Rattle.std.specs.List.{prefix_len}
use Rattle.std.specs.Prelude.{ℕ, ◌==◌}
use Rattle.xt_flow.proofs.numbers.zeros.Given as goal

-- those so far are followed by those at the front of what is left
abbrev pub invariant-loop-i : goal.invariant-loop-i
invariant-loop-i l = prefix_len (λ (b : ℕ). b == 0) (drop l.i l.bytes) + l.i ≡ prefix_len (λ (b : ℕ). b == 0) l.bytes
