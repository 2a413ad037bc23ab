-- Which positions of a run the commands of scripts look for ('profile'). A position is a number of
-- steps of the run's schedule.
use Rattle.std.specs.Prelude.{ℕ, zero, suc, ◌-◌, ◌/◌, Bool, true, false, ◌&&◌, ◌==◌, nat_le}
use Rattle.std.specs.Prelude.{if◌then◌else◌, Option, Some, None, List, length, drop}
use Rattle.std.specs.List.{list_any, slice_get}
use Rattle.std.specs.Option.{option_map, option_map_or}
use Rattle.xt_map.specs.declared.access.Entry.{Entry}
use Rattle.xt_map.specs.declared.access.Kind.{Kind}
use Rattle.xt_map.specs.declared.access.Kind.TheVariants as kind
use Rattle.xt_map.specs.Regions.{is_memory, region_of}
use Rattle.xt_trace.specs.declared.run.Run.{Run}
use Rattle.xt_image.specs.declared.image.Image.{Image}
use Rattle.xt_core.specs.Positions.{schedule_in, world_at}
use Rattle.xt_debug.specs.declared.targets.Breakpoint.{Breakpoint}
use Rattle.xt_debug.specs.declared.targets.Target.{Target}
use Rattle.xt_debug.specs.declared.targets.Target.TheVariants as target
use Rattle.xt_replay.specs.Places.{position_of, trace_in}
use Rattle.xt_replay.specs.Shown.{shown_at, state_in}

-- the first of so many numbers from p on that passes the test
abbrev pub first_from : (ℕ → Bool) → ℕ → ℕ → Option ℕ
first_from test p zero = None
first_from test p (suc n) = if test p then Some p else first_from test (suc p) n

-- the last number below this one that passes the test
abbrev pub last_before : (ℕ → Bool) → ℕ → Option ℕ
last_before test zero = None
last_before test (suc n) = if test n then Some n else last_before test n

-- the position after a run's last step
abbrev pub end_of : Run → ℕ
end_of r = length (schedule_in r)

-- a position, where the run has it
abbrev pub within : Run → ℕ → Option ℕ
within r p = if nat_le p (end_of r) then Some p else None

-- the first step from a position on that passes the test
abbrev pub first_step : (ℕ → Bool) → Run → ℕ → Option ℕ
first_step test r p = first_from test p (end_of r - p)

-- ---- `go`

-- directly before a core's step of this number, where its trace is that long
abbrev pub step_position : Run → ℕ → ℕ → Option ℕ
step_position r core step =
    if nat_le step (trace_in core r).count then Some (position_of core step r) else None

-- ---- `break` and `prior`

-- the next step is this core's, and the core's program counter is one of the addresses
unfoldable pub is_next : Image → Run → Breakpoint → ℕ → Bool
is_next image r b p =
    option_map_or (λ (core : ℕ). core == b.core) (slice_get (schedule_in r) p) false
    && list_any
    (λ (address : ℕ). address == (state_in b.core (shown_at image r p)).control.pc)
    b.addresses

-- ---- `watch` and `last`

-- an access with this reply stores: a compare-and-swap does where it found what it expected
abbrev pub stores : Kind → ℕ → Bool
stores kind.Load reply = false
stores (kind.Store value) reply = true
stores (kind.Cas expected new) reply = reply == expected

-- An entry stores into the word that holds an address, in a memory region. The bytes of an access
-- lie in one word.
unfoldable pub stores_at : ℕ → Entry → Bool
stores_at addr e =
    is_memory (region_of e.access.addr)
    && ((e.access.addr / 4 == addr / 4) && stores e.access.kind e.reply)

-- the entries of the history before a position, and those that the step at a position makes
abbrev pub entries_before : Image → Run → ℕ → List Entry
entries_before image r p = (world_at image r p).line.history

abbrev pub entries_made : Image → Run → ℕ → List Entry
entries_made image r p = drop (length (entries_before image r p)) (entries_before image r (suc p))

unfoldable pub stores_word : Image → Run → ℕ → ℕ → Bool
stores_word image r addr p = list_any (stores_at addr) (entries_made image r p)

-- ---- searches

-- what is looked for is found at a position
abbrev pub hits : Image → Run → Target → ℕ → Bool
hits image r (target.Execution b) p = is_next image r b p
hits image r (target.Store addr) p = stores_word image r addr p

-- where a search on arrives: at the first later position where a core is next so; or directly after
-- the first step from here on that stores so
abbrev pub next_position : Image → Run → Target → ℕ → Option ℕ
next_position image r (target.Execution b) p = first_step (is_next image r b) r (suc p)
next_position image r (target.Store addr) p =
    option_map suc (first_step (stores_word image r addr) r p)

-- where a search back arrives: at the last earlier position where it is found
abbrev pub prior_position : Image → Run → Target → ℕ → Option ℕ
prior_position image r t p = last_before (hits image r t) p
