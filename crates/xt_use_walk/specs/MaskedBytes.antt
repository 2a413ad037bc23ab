-- Carries a proof; nothing that a reader must believe.
-- What the walk keeps of the bytes of memory: of those of internal data memory, in which live save
-- areas they lie, and of each byte of the three memory regions the mask with which it is read.
use Rattle.std.specs.Prelude.{◌≡◌, ℕ, ◌+◌, ◌-◌, ◌<◌, ◌≤◌, Bool, true, false, ◌||◌, ◌==◌, nat_le}
use Rattle.std.specs.Prelude.{if◌then◌else◌, Option, Some, None, List, length, slice_index_or}
use Rattle.xt_map.specs.declared.access.Access.{Access}
use Rattle.xt_map.specs.Regions.{is_memory, region_of}
use Rattle.xt_map.specs.Touching.{touches}
use Rattle.xt_discipline.specs.declared.bytes.Held.{Held}
use Rattle.xt_discipline.specs.declared.bytes.Change.TheVariants.{Enters, Leaves}
use Rattle.xt_frames.specs.Breaches.{touches_save_area}
use Rattle.xt_discipline.specs.ByteMarks.{AreChanged, either, held_at, is_held, other_live, own_live}
use Rattle.xt_uses.specs.FirstUse.{stored_byte}
use Rattle.xt_uses.specs.UseBreaches.{swaps_unknown}
use Rattle.xt_uses.specs.UseStep.{reply_mask}
use Rattle.xt_uses.specs.UseWalk.{mask_stored}
use Rattle.xt_uses.specs.Words.{all_bits}
use Rattle.xt_use_walk.specs.declared.bytes.ByteMasks.{ByteMasks}
use Rattle.xt_use_walk.specs.declared.side.Bytes.{Bytes}

-- the place of a byte of memory among the masks, region by region
abbrev pub place : ℕ → ℕ
place a =
    if nat_le 0x50000000 a then a - 0x50000000 + 0x54000
    else (if nat_le 0x3FFAE000 a then a - 0x3FFAE000 + 0x2000 else a - 0x3FF80000)

-- the byte lies in a memory region
abbrev pub is_byte : ℕ → Bool
is_byte a = is_memory (region_of a)

-- the mask that is kept for a byte of memory
abbrev pub mask_at : ByteMasks → ℕ → ℕ
mask_at m a = slice_index_or m.masks.items (place a) 0

-- the masks of the bytes of memory are these
abbrev pub AreMasks : ByteMasks → (ℕ → ℕ) → Type 0
AreMasks m masks = (a : ℕ) → is_byte a ≡ true → mask_at m a ≡ masks a

-- so many bytes from an address on are bytes of memory
abbrev pub AreBytes : ℕ → ℕ → Type 0
AreBytes from size = (a : ℕ) → from ≤ a → a < from + size → is_byte a ≡ true

-- nothing is known of the bytes that pass the test
abbrev pub without : (ℕ → Bool) → (ℕ → ℕ) → ℕ → ℕ
without test masks a = if test a then 0 else masks a

-- as many masks as memory has bytes
abbrev pub IsFull : ByteMasks → Type 0
IsFull m = length m.masks.items ≡ 0x56000

-- and as many marks as internal data memory has
pub record AreFull (x : Bytes) : Type 0 where
  pub marks : length x.marks.items ≡ 0x52000
  pub masks : IsFull x.masks

-- the byte lies in a live save area of either core
abbrev pub is_live_byte : List Held → ℕ → Bool
is_live_byte marks a = is_held (held_at marks a)

-- one byte gets this mask
abbrev pub put_at : ℕ → ℕ → (ℕ → ℕ) → ℕ → ℕ
put_at addr mask masks a = if a == addr then mask else masks a

-- unless it is live
abbrev pub put_free : List Held → ℕ → ℕ → (ℕ → ℕ) → ℕ → ℕ
put_free marks addr mask masks a =
    if is_live_byte marks addr then masks a else put_at addr mask masks a

-- so many bytes from an address on get those of a value that is stored, and a live byte keeps its
-- own
abbrev pub stored_on : List Held → ℕ → ℕ → ℕ → (ℕ → ℕ) → ℕ → ℕ
stored_on marks stored addr size masks a =
    if is_live_byte marks a then masks a
    else (if touches addr size a then stored_byte stored addr a else masks a)

-- each bit is known of so many bytes from an address on
abbrev pub AreKnown : (ℕ → ℕ) → ℕ → ℕ → Type 0
AreKnown masks addr size = (a : ℕ) → addr ≤ a → a < addr + size → masks a ≡ 255

-- each bit is known of the bytes of memory that an access touches
abbrev pub KnowsAccess : (ℕ → ℕ) → Option Access → Type 0
KnowsAccess masks None = Unit {0}
KnowsAccess masks (Some x) = is_memory (region_of x.addr) ≡ true → AreKnown masks x.addr x.size

-- the masks after a judged store, where a live byte keeps its own
abbrev pub stored_over : List Held → ℕ → Option Access → (ℕ → ℕ) → ℕ → ℕ
stored_over marks stored access masks a =
    if is_live_byte marks a then masks a else mask_stored stored access masks a

-- 16 bytes come into a live save area of a core, after 16 have left one
pub record AreShifted (core from to : ℕ) (old new : List Held) : Type 0 where
  pub mid : List Held
  pub len : length mid ≡ length old
  pub leaves : AreChanged (Leaves core) (touches from 16) old mid
  pub enters : AreChanged (Enters core) (touches to 16) mid new

-- the marks are those of these live bytes of a core and of the other
pub record TellsLive (core : ℕ) (marks : List Held) (own others : ℕ → Bool) : Type 0 where
  pub own_is : (a : ℕ) → own_live core (held_at marks a) ≡ own a
  pub others_is : (a : ℕ) → other_live core (held_at marks a) ≡ others a

-- and the masks are those of the bytes of memory, where nothing is known of a live byte
pub record KnowsBytes (core : ℕ) (x : Bytes) (own others : ℕ → Bool) (masks : ℕ → ℕ) : Type 0
  where
    pub full : AreFull x
    pub live : TellsLive core x.marks.items own others
    pub masks_are : AreMasks x.masks masks
    pub unknown : (a : ℕ) → (own a || others a) ≡ true → masks a ≡ 0

-- an access touches no live byte, and of what it reads each bit is known
pub record SparesAccess (live : ℕ → Bool) (masks : ℕ → ℕ) (access : Option Access) : Type 0 where
  pub saves : touches_save_area live access ≡ false
  pub swaps : swaps_unknown masks access ≡ false
  pub reply : reply_mask masks access ≡ all_bits

-- so it is whatever bytes these are
abbrev pub IsSpared : Bytes → Option Access → Type 0
IsSpared x access =
    (core : ℕ) (own others : ℕ → Bool) (masks : ℕ → ℕ) → KnowsBytes core x own others masks
    → SparesAccess (either own others) masks access
