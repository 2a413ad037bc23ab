-- What is known of the bytes of memory, which both cores share ('profile'): masks of eight bits, by
-- addresses.
--
-- Profile: as a run begins nothing is known of the secret bytes, and all other bytes are known. A
-- store gives each byte that it touches the mask of its bits. Public bytes are always known, also
-- those that are secret too. A compare-and-swap changes no mask, since it uses all that it stores
-- and finds.
use Rattle.std.specs.Prelude.{◌≡◌, ℕ, Bool, ◌&&◌, not, if◌then◌else◌, Option, Some, None}
use Rattle.xt_map.specs.declared.access.Access.{Access}
use Rattle.xt_map.specs.declared.contents.MemoryContents.{MemoryContents}
use Rattle.xt_map.specs.Memory.{byte_at}
use Rattle.xt_map.specs.Touching.{is_store, touches}
use Rattle.xt_uses.specs.UseLaws.{AgreeIn}
use Rattle.xt_uses.specs.FirstUse.{stored_byte}

-- secret, and not public
abbrev pub is_hidden : (ℕ → Bool) → (ℕ → Bool) → ℕ → Bool
is_hidden secret public a = secret a && not (public a)

abbrev pub opening_bytes : (ℕ → Bool) → (ℕ → Bool) → ℕ → ℕ
opening_bytes secret public a = if is_hidden secret public a then 0 else 255

-- a store gives the bytes that it touches what is known of the value
abbrev pub mask_stored : ℕ → Option Access → (ℕ → ℕ) → ℕ → ℕ
mask_stored stored None masks a = masks a
mask_stored stored (Some x) masks a =
    if is_store x.kind && touches x.addr x.size a then stored_byte stored x.addr a else masks a

-- after a turn with this access, which stores what is known in this mask
abbrev pub bytes_past : (ℕ → Bool) → ℕ → Option Access → (ℕ → ℕ) → ℕ → ℕ
bytes_past public stored access masks a =
    if public a then 255 else mask_stored stored access masks a

-- two memories agree in what is known, and the same bytes were sent
pub record MemoriesAgree (masks : ℕ → ℕ) (m n : MemoryContents) : Type 0 where
  pub bytes : (a : ℕ) → AgreeIn (masks a) (byte_at m a) (byte_at n a)
  pub sent : m.sent ≡ n.sent
