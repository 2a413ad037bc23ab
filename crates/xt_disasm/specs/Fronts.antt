-- Carries a proof; nothing that a reader must believe.
-- What the code answers for the instruction that some bytes begin with.
use Rattle.std.specs.Prelude.{ℕ, ◌≡◌, ◌≤◌, List, length, Option, Some, None}
use Rattle.xt_isa.specs.declared.Insn.{Insn}
use Rattle.xt_disasm.specs.Listing.{front, wanted_length}

-- the instruction that the bytes begin with and its length, or nothing
abbrev pub IsFront : List ℕ → Option (Insn × ℕ) → Type 0
IsFront bytes None = front bytes ≡ None
IsFront bytes (Some (i, n)) =
    (front bytes ≡ Some i) × (n ≡ wanted_length bytes) × (n ≤ length bytes)
