-- Memory as the bytes that differ from another memory ('profile').
use Rattle.std.specs.Prelude.{◌≡◌, ◌≢◌, ℕ, suc, ◌+◌, ◌*◌, ◌%◌, ◌^◌, ◌<◌, ◌==◌, nat_lt, true}
use Rattle.std.specs.Prelude.{if◌then◌else◌, List, [], ◌∷◌, length}
use Rattle.xt_map.specs.declared.contents.MemoryContents.{MemoryContents}
use Rattle.xt_map.specs.Memory.{byte_at, with_byte}
use Rattle.xt_map.specs.Regions.{is_memory, region_of}
use Rattle.xt_search.specs.declared.changes.Change.{Change}

-- the changed bytes with their addresses, and the bytes that were sent
pub record ChangesState : Type 0 where
  pub bytes : List Change
  pub sent : List ℕ

-- the memory with these bytes
abbrev pub with_changes : MemoryContents → List Change → MemoryContents
with_changes m [] = m
with_changes m (c ∷ cs) = with_changes (with_byte m c.addr c.byte) cs

-- what they stand for where memory opened so
abbrev pub contents_of : MemoryContents → ChangesState → MemoryContents
contents_of m s = with_changes (record m { sent = s.sent }) s.bytes

-- one byte more, at its place
abbrev pub put_in : List Change → Change → List Change
put_in [] x = x ∷ []
put_in (c ∷ cs) x =
    if nat_lt c.addr x.addr then c ∷ put_in cs x
    else (if c.addr == x.addr then x ∷ cs else x ∷ c ∷ cs)

-- without the byte at the address
abbrev pub without : List Change → ℕ → List Change
without [] a = []
without (c ∷ cs) a =
    if nat_lt c.addr a then c ∷ without cs a else (if c.addr == a then cs else c ∷ cs)

-- how many are below the address
abbrev pub place_in : List Change → ℕ → ℕ
place_in [] a = 0
place_in (c ∷ cs) a = if nat_lt c.addr a then suc (place_in cs a) else 0

-- the byte at the address, or another where there is none
abbrev pub byte_in : List Change → ℕ → ℕ → ℕ
byte_in [] a b = b
byte_in (c ∷ cs) a b =
    if nat_lt c.addr a then byte_in cs a b else (if c.addr == a then c.byte else b)

-- all addresses are above this one
abbrev pub IsAbove : ℕ → List Change → Type 0
IsAbove a [] = Unit {0}
IsAbove a (c ∷ cs) = (a < c.addr) × IsAbove a cs

-- the addresses rise
abbrev pub IsRising : List Change → Type 0
IsRising [] = Unit {0}
IsRising (c ∷ cs) = IsAbove c.addr cs × IsRising cs

-- each lies in memory, and is not the byte that memory opened with
abbrev pub AreNew : MemoryContents → List Change → Type 0
AreNew m [] = Unit {0}
AreNew m (c ∷ cs) =
    (is_memory (region_of c.addr) ≡ true) × (byte_at m c.addr ≢ c.byte) × AreNew m cs

-- and their addresses rise
abbrev pub IsLean : MemoryContents → ChangesState → Type 0
IsLean m s = IsRising s.bytes × AreNew m s.bytes

-- ---- a number that is the same for the same changes

abbrev pub digest_from : ℕ → List Change → ℕ
digest_from d [] = d
digest_from d (c ∷ cs) =
    digest_from ((d * 0x9E3779B97F4A7C15 % 2 ^ 64 + (c.addr * 256 + c.byte)) % 2 ^ 64) cs

abbrev pub digest_of : ChangesState → ℕ
digest_of s = digest_from (length s.sent) s.bytes
