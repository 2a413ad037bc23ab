-- Carries a proof; nothing that a reader must believe.
-- The tables that are kept of the entries so far.
use Rattle.std.specs.Prelude.{◌≡◌, ℕ, zero, suc, ◌+◌, ◌-◌, ◌/◌, ◌%◌, Bool, true, false, ◌==◌, ◌&&◌, ◌||◌, not}
use Rattle.std.specs.Prelude.{nat_eq, nat_le, if◌then◌else◌, Option, Some, None, List, [], max}
use Rattle.std.specs.Prelude.{slice_index_or}
use Rattle.std.specs.HashMap.{get, HashMap}
use Rattle.std.specs.Option.{unwrap_or}
use Rattle.xt_map.specs.Regions.{region_of, is_memory}
use Rattle.xt_map.specs.Touching.{touches}
use Rattle.xt_race.specs.declared.event.Event.{Event}
use Rattle.xt_race.specs.declared.finder.Finder.{Finder}
use Rattle.xt_race.specs.declared.latest.Latest.{Latest}
use Rattle.xt_race.specs.declared.latest.Mark.{Mark}
use Rattle.xt_race.specs.declared.latest.Note.{Note}
use Rattle.xt_race.specs.declared.marks.Marks.{Marks}
use Rattle.xt_race.specs.declared.releases.Releases.{Releases}
use Rattle.xt_race.specs.Races.{acquires, synchronises, writes}

-- ---- the two cores

abbrev pub other : ℕ → ℕ
other zero = 1
other (suc core) = 0

-- core 0 stands for itself, and any other number for core 1
abbrev pub is_side : ℕ → ℕ → Bool
is_side zero core = core == 0
is_side (suc c) core = not (core == 0)

-- ---- the latest entries at a byte

abbrev pub none_latest : Latest
none_latest = record { any = 0; plain = 0; write = 0; plain_write = 0 }

abbrev pub no_mark : Mark
no_mark = record { zero = none_latest; one = none_latest }

abbrev pub note_of : Event → ℕ → Note
note_of e upto =
    record { core = e.entry.core; writes = writes e; plain = not (synchronises e); upto = upto }

abbrev pub noted_in : Note → Latest → Latest
noted_in n l = record {
  any = n.upto;
  plain = if n.plain then n.upto else l.plain;
  write = if n.writes then n.upto else l.write;
  plain_write = if n.plain && n.writes then n.upto else l.plain_write;
}

abbrev pub mark_after_note : Note → Mark → Mark
mark_after_note n m =
    if n.core == 0 then record { zero = noted_in n m.zero; one = m.one }
    else record { zero = m.zero; one = noted_in n m.one }

abbrev pub latest_of : Bool → Bool → Latest → ℕ
latest_of true true l = l.any
latest_of true false l = l.plain
latest_of false true l = l.write
latest_of false false l = l.plain_write

abbrev pub rival_of : Note → Mark → ℕ
rival_of n m = latest_of n.writes n.plain (if n.core == 0 then m.one else m.zero)

-- ---- the bytes of the memory regions, in a row

abbrev pub within : ℕ → ℕ → ℕ → Bool
within first last a = nat_le first a && nat_le a last

unfoldable pub place_of : ℕ → Option ℕ
place_of a =
    if within 0x3FF80000 0x3FF81FFF a then Some (a - 0x3FF80000)
    else (if within 0x3FFAE000 0x3FFFFFFF a then Some (a - 0x3FFAE000 + 0x2000)
    else (if within 0x50000000 0x50001FFF a then Some (a - 0x50000000 + 0x54000) else None))

-- by pages of 64 bytes, which have no items before an entry touches one of them
abbrev pub mark_in : List (List Mark) → Option ℕ → Mark
mark_in pages None = no_mark
mark_in pages (Some place) =
    slice_index_or (slice_index_or pages (place / 64) []) (place % 64) no_mark

abbrev pub mark_at : Marks → ℕ → Mark
mark_at m a = mark_in m.pages.items (place_of a)

-- past an entry that touches so many bytes from an address on
abbrev pub IsNoted : Note → ℕ → ℕ → Marks → Marks → Type 0
IsNoted note addr size old new =
    (a : ℕ) → mark_at new a
    ≡ (if touches addr size a && is_memory (region_of a) then mark_after_note note (mark_at old a)
    else mark_at old a)

-- the test is true of one of so many bytes from an address on
abbrev pub some_byte : (ℕ → Bool) → ℕ → ℕ → Bool
some_byte f addr zero = false
some_byte f addr (suc n) = f addr || some_byte f (addr + 1) n

-- ---- the latest releases at an address

abbrev pub count_of : {S : Type 0} → HashMap ℕ ℕ S → ℕ → ℕ
count_of m key = unwrap_or (get nat_eq m key) 0

abbrev pub released_at : Releases → ℕ → ℕ → ℕ
released_at r zero addr = count_of r.zero addr
released_at r (suc core) addr = count_of r.one addr

-- ---- what a core has acquired

abbrev pub seen_in : Finder → ℕ → ℕ
seen_in f zero = f.seen0
seen_in f (suc core) = f.seen1

abbrev pub acquired_by : Finder → Event → ℕ
acquired_by f e =
    if acquires e
    then max (seen_in f e.entry.core)
    (released_at f.releases (other e.entry.core) e.entry.access.addr)
    else seen_in f e.entry.core

abbrev pub with_seen : ℕ → ℕ → Finder → Finder
with_seen zero seen f = record f { seen0 = seen }
with_seen (suc core) seen f = record f { seen1 = seen }
