-- Carries a proof; nothing that a reader must believe.
-- What the tables hold after the first entries of a history.
use Rattle.std.specs.Prelude.{◌≡◌, ℕ, zero, suc, Bool, ◌==◌, ◌&&◌, not, nat_lt}
use Rattle.std.specs.Prelude.{if◌then◌else◌, Option, Some, None, List, max, slice_get}
use Rattle.xt_map.specs.Regions.{region_of, is_memory}
use Rattle.xt_race.specs.declared.event.Event.{Event}
use Rattle.xt_race.specs.declared.finder.Finder.{Finder}
use Rattle.xt_race.specs.declared.finder.RaceStep.{RaceStep}
use Rattle.xt_race.specs.declared.latest.Latest.{Latest}
use Rattle.xt_race.specs.declared.latest.Mark.{Mark}
use Rattle.xt_race.specs.Races.{acquires, releases, synchronises, touches_byte, writes}
use Rattle.xt_race.specs.Tables.{is_side, mark_at, note_of, other, released_at, rival_of, some_byte}

-- ---- the latest entry of the first n that passes a test: one more than its place, 0 where none does

abbrev pub later : (Event → Bool) → Option Event → ℕ → ℕ → ℕ
later p None n before = before
later p (Some e) n before = if p e then suc n else before

abbrev pub latest : (Event → Bool) → List Event → ℕ → ℕ
latest p events zero = 0
latest p events (suc n) = later p (slice_get events n) n (latest p events n)

-- ---- at a byte

-- an entry of a side touches the byte, which is one of memory
abbrev pub meets : ℕ → ℕ → Event → Bool
meets c a e = is_side c e.entry.core && (touches_byte e a && is_memory (region_of a))

abbrev pub is_plain : Event → Bool
is_plain e = not (synchronises e)

abbrev pub latest_at : ℕ → List Event → ℕ → ℕ → Latest
latest_at c events n a = record {
  any = latest (λ e. meets c a e) events n;
  plain = latest (λ e. meets c a e && is_plain e) events n;
  write = latest (λ e. meets c a e && writes e) events n;
  plain_write = latest (λ e. meets c a e && (is_plain e && writes e)) events n;
}

abbrev pub latest_mark : List Event → ℕ → ℕ → Mark
latest_mark events n a = record { zero = latest_at 0 events n a; one = latest_at 1 events n a }

-- ---- releases and acquires

abbrev pub releases_at : ℕ → ℕ → Event → Bool
releases_at c addr e = is_side c e.entry.core && (releases e && (addr == e.entry.access.addr))

abbrev pub seen_past : ℕ → (ℕ → ℕ) → ℕ → Option Event → ℕ
seen_past c released before None = before
seen_past c released before (Some e) =
    if is_side c e.entry.core && acquires e then max before (released e.entry.access.addr)
    else before

-- how many entries of the other core a core has acquired with the first n entries
abbrev pub acquired_count : ℕ → List Event → ℕ → ℕ
acquired_count c events zero = 0
acquired_count c events (suc n) =
    seen_past c (λ addr. latest (releases_at (other c) addr) events n) (acquired_count c events n)
    (slice_get events n)

-- ---- what is kept of the first n entries

pub record Knows (f : Finder) (events : List Event) (n : ℕ) : Type 0 where
  pub count : f.count ≡ n
  pub marks : (a : ℕ) → mark_at f.marks a ≡ latest_mark events n a
  pub releases0 : (addr : ℕ) → released_at f.releases 0 addr ≡ latest (releases_at 0 addr) events n
  pub releases1 : (addr : ℕ) → released_at f.releases 1 addr ≡ latest (releases_at 1 addr) events n
  pub seen0 : f.seen0 ≡ acquired_count 0 events n
  pub seen1 : f.seen1 ≡ acquired_count 1 events n

-- entry n, which is e, races with one before it
abbrev pub is_hit : List Event → ℕ → Event → Bool
is_hit events n e =
    some_byte
    (λ a. nat_lt (acquired_count e.entry.core events (suc n))
    (rival_of (note_of e (suc n)) (latest_mark events n a)))
    e.entry.access.addr e.entry.access.size

-- one more entry was taken
pub record IsTaken (events : List Event) (n : ℕ) (e : Event) (f : Finder) (r : RaceStep) : Type 0
  where
    pub knows : Knows f events (suc n)
    pub hit_is : r.hit ≡ is_hit events n e
    pub seen_is : r.seen ≡ acquired_count e.entry.core events (suc n)
