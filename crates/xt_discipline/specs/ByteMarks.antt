-- Carries a proof; nothing that a reader must believe.
-- The marks of the bytes of internal data memory, by save areas, that the walk of the judge keeps.
use Rattle.std.specs.Prelude.{◌≡◌, ℕ, zero, suc, ◌+◌, ◌-◌, ◌*◌, ◌≤◌, ◌^◌, Bool, true, false, not}
use Rattle.std.specs.Prelude.{◌&&◌, ◌||◌, nat_le, nat_lt, if◌then◌else◌, List, length}
use Rattle.std.specs.Prelude.{slice_index_or}
use Rattle.xt_map.specs.Touching.{touches}
use Rattle.xt_frames.specs.Frames.{Frame}
use Rattle.xt_frames.specs.SaveAreas.{before}
use Rattle.xt_discipline.specs.declared.bytes.Held.{Held}
use Rattle.xt_discipline.specs.declared.bytes.Change.{Change}
use Rattle.xt_discipline.specs.declared.bytes.Change.TheVariants.{Enters, Leaves, Stored}

-- the first address of internal data memory
abbrev pub first : ℕ
first = 0x3FFAE000

-- a byte that lies in no live save area and is not stale
abbrev pub nothing : Held
nothing = record { live0 = false; live1 = false; stale = false }

-- there is a mark for the address
abbrev pub is_marked : List Held → ℕ → Bool
is_marked marks a = nat_le first a && nat_lt a (first + length marks)

-- what is known of the byte at an address
abbrev pub held_at : List Held → ℕ → Held
held_at marks a = if is_marked marks a then slice_index_or marks (a - first) nothing else nothing

-- a byte comes into a live save area of a core, leaves one, or is written by a judged store
abbrev pub byte_after_change : Change → Held → Held
byte_after_change (Enters zero) h = record { live0 = true; live1 = h.live1; stale = false }
byte_after_change (Enters (suc core)) h = record { live0 = h.live0; live1 = true; stale = false }
byte_after_change (Leaves zero) h = record { live0 = false; live1 = h.live1; stale = not h.live1 }
byte_after_change (Leaves (suc core)) h =
    record { live0 = h.live0; live1 = false; stale = not h.live0 }
byte_after_change Stored h = record h { stale = false }

-- the marks after a change of `size` bytes from an address on
abbrev pub IsChanged : Change → ℕ → ℕ → List Held → List Held → Type 0
IsChanged change from size old new =
    (a : ℕ) → held_at new a
    ≡ (if touches from size a && is_marked old a then byte_after_change change (held_at old a)
    else held_at old a)

-- the marks are those of these live and stale bytes
pub record Agrees (marks : List Held) (live0 live1 stale : ℕ → Bool) : Type 0 where
  pub first_core : (a : ℕ) → (held_at marks a).live0 ≡ live0 a
  pub second_core : (a : ℕ) → (held_at marks a).live1 ≡ live1 a
  pub no_longer : (a : ℕ) → (held_at marks a).stale ≡ stale a

-- the byte lies in a live save area of either core
abbrev pub is_held : Held → Bool
is_held h = h.live0 || h.live1

abbrev pub either : (ℕ → Bool) → (ℕ → Bool) → ℕ → Bool
either live0 live1 a = live0 a || live1 a

-- the areas that the call of a frame opens, whose callee's stack pointer is sp: the 16 bytes below
-- that, and the 16(n-1) bytes that end 16 below its caller's stack pointer
abbrev pub opened_at : ℕ → ℕ → Frame → List Frame → ℕ → Bool
opened_at hi sp f fs a =
    touches (sp - 16) 16 a || touches (before hi fs - 16 * f.by) (16 * (f.by - 1)) a

-- ---- by the core that is judged and the other one

abbrev pub own_live : ℕ → Held → Bool
own_live zero h = h.live0
own_live (suc core) h = h.live1

abbrev pub other_live : ℕ → Held → Bool
other_live zero h = h.live1
other_live (suc core) h = h.live0

-- the marks are those of these live bytes of a core and of the other, and of these stale bytes; no
-- live byte is stale
pub record KnowsOf (core : ℕ) (marks : List Held) (own others stale : ℕ → Bool) : Type 0 where
  pub own_is : (a : ℕ) → own_live core (held_at marks a) ≡ own a
  pub others_is : (a : ℕ) → other_live core (held_at marks a) ≡ others a
  pub stale_is : (a : ℕ) → (held_at marks a).stale ≡ stale a
  pub fresh : (a : ℕ) → (own a || others a) ≡ true → stale a ≡ false

-- bytes that pass the test are changed, and all others are as they were
abbrev pub AreChanged : Change → (ℕ → Bool) → List Held → List Held → Type 0
AreChanged change test old new =
    (a : ℕ) → held_at new a
    ≡ (if test a && is_marked old a then byte_after_change change (held_at old a)
    else held_at old a)

-- as both cores open: of each the word at HI - 76 lies in a live save area, and nothing is stale
abbrev pub AreOpened : List Held → ℕ → ℕ → Type 0
AreOpened marks hi0 hi1 =
    KnowsOf 0 marks (λ a. touches (hi0 - 76) 4 a) (λ a. touches (hi1 - 76) 4 a) (λ a. false)

-- a stack that ends here lies in internal data memory, and has 256 bytes at least
abbrev pub IsEnd : ℕ → Type 0
IsEnd hi = (first + 256 ≤ hi) × (hi ≤ 2 ^ 30)
