-- Carries a proof; nothing that a reader must believe.
-- Accesses of two cores that may come in either order.
use Rattle.std.specs.Prelude.{◌≡◌, ◌+◌, ◌≤◌, true, ◌⊎◌}
use Rattle.xt_map.specs.declared.access.Access.{Access}
use Rattle.xt_map.specs.declared.contents.MemoryContents.{MemoryContents}
use Rattle.xt_map.specs.Memory.{HasSizes}
use Rattle.xt_map.specs.Regions.{is_mapped}
use Rattle.xt_map.specs.Serving.{memory_past, reply_to}
use Rattle.xt_map.specs.Touching.{is_load}

-- They have no byte in common, or both load. Two stores to the transmit address of UART0 have its byte
-- in common.
abbrev pub AreApart : Access → Access → Type 0
AreApart a b =
    ((a.addr + a.size ≤ b.addr) ⊎ (b.addr + b.size ≤ a.addr))
    ⊎ ((is_load a.kind ≡ true) × (is_load b.kind ≡ true))

-- memory and what was sent are the same in either order
abbrev pub ApartAccessesCommute : Type 0
ApartAccessesCommute =
    (m : MemoryContents) (a b : Access) → HasSizes m → is_mapped a ≡ true → is_mapped b ≡ true
    → AreApart a b → memory_past (memory_past m a) b ≡ memory_past (memory_past m b) a

-- each answers the same before and after the other
abbrev pub ApartAccessesKeepReplies : Type 0
ApartAccessesKeepReplies =
    (m : MemoryContents) (a b : Access) → AreApart a b
    → reply_to (memory_past m a) b ≡ reply_to m b
