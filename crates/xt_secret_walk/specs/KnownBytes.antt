-- Carries a proof; nothing that a reader must believe.
-- The masks that the walk keeps of the bytes of memory.
use Rattle.std.specs.Prelude.{◌≡◌, ℕ, ◌+◌, ◌-◌, Bool, true, ◌==◌, ◌||◌, not, nat_le}
use Rattle.std.specs.Prelude.{if◌then◌else◌}
use Rattle.xt_map.specs.Touching.{touches}
use Rattle.xt_uses.specs.FirstUse.{stored_byte}
use Rattle.xt_use_walk.specs.declared.bytes.ByteMasks.{ByteMasks}
use Rattle.xt_use_walk.specs.MaskedBytes.{AreMasks, IsFull}

-- the byte at a place
abbrev pub address_at : ℕ → ℕ
address_at n =
    if nat_le 0x54000 n then n - 0x54000 + 0x50000000
    else (if nat_le 0x2000 n then n - 0x2000 + 0x3FFAE000 else n + 0x3FF80000)

-- the byte of a value that is stored has a bit that is not known, and is not public
abbrev pub is_hidden_byte : (ℕ → Bool) → ℕ → ℕ → ℕ → Bool
is_hidden_byte public stored addr a = not (public a || stored_byte stored addr a == 255)

-- so many bytes from an address on get those of a value that is stored; a public byte is known
abbrev pub stored_in_bytes : (ℕ → Bool) → ℕ → ℕ → ℕ → (ℕ → ℕ) → ℕ → ℕ
stored_in_bytes public stored addr size masks a =
    if touches addr size a
    then (if is_hidden_byte public stored addr a then stored_byte stored addr a else 255)
    else masks a

-- the masks are those of the bytes of memory, and public bytes are known
pub record KnowsBytes (x : ByteMasks) (public : ℕ → Bool) (masks : ℕ → ℕ) : Type 0 where
  pub full : IsFull x
  pub masks_are : AreMasks x masks
  pub public_are : (a : ℕ) → public a ≡ true → masks a ≡ 255
