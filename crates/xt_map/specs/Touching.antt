-- The bytes that an access touches, whether it loads or stores, and memories of bytes ('profile').
use Rattle.std.specs.Prelude.{◌<◌, ◌^◌, ◌+◌, ◌&&◌, ℕ, Bool, true, false, nat_le, nat_lt}
use Rattle.xt_map.specs.declared.access.Kind.{Kind}
use Rattle.xt_map.specs.declared.access.Kind.TheVariants.{Load, Store, Cas}
use Rattle.xt_map.specs.declared.contents.MemoryContents.{MemoryContents}
use Rattle.xt_map.specs.Memory.{HasSizes, byte_at}

-- the address is one of the bytes from addr on
abbrev pub touches : ℕ → ℕ → ℕ → Bool
touches addr size a = nat_le addr a && nat_lt a (addr + size)

abbrev pub is_load : Kind → Bool
is_load Load = true
is_load (Store v) = false
is_load (Cas expected new) = false

-- a compare-and-swap is no store
abbrev pub is_store : Kind → Bool
is_store Load = false
is_store (Store v) = true
is_store (Cas expected new) = false

-- lists as long as their regions, of bytes
pub record IsMemory (m : MemoryContents) : Type 0 where
  pub sizes : HasSizes m
  pub small : (a : ℕ) → byte_at m a < 2 ^ 8
