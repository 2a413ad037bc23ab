-- Carries a proof; nothing that a reader must believe.
-- Registers that nobody will read: what a search takes for granted of them.
--
-- A list has masks, of each program counter one, and program counters far apart may share one: bits 0
-- to 15 are of the visible registers, and the next one is of SCOMPARE1. In what a search keeps of a
-- core the registers of the mask are 0; it is right if each turn that the search makes fits.
use Rattle.std.specs.Prelude.{ℕ, zero, suc, ◌%◌, Bool, true, false, ◌==◌, ◌&&◌, ◌||◌, not}
use Rattle.std.specs.Prelude.{if◌then◌else◌, Option, Some, None, List, slice_index, slice_set}
use Rattle.std.specs.Prelude.{nat_le}
use Rattle.xt_special.specs.Numbers as number
use Rattle.xt_window.specs.Ring.{bit, place}
use Rattle.xt_trace.specs.declared.record.RegWrite.{RegWrite}
use Rattle.xt_map.specs.Fetching.{Fetched, Fetches, Fails, SpellsNothing, fetch_at}
use Rattle.xt_rows.specs.Operands.{reads}
use Rattle.xt_rows.specs.Settling.{write_with_reply}
use Rattle.xt_exec.specs.State.{State}
use Rattle.xt_exec.specs.Turn.{planned_turn}
use Rattle.xt_timeless.specs.Time.{executes, fetches_compare, fetches_write}
use Rattle.xt_outcomes.specs.States.{Side, Spot}

-- ---- what is forgotten

-- the registers that are dead at the program counter
abbrev pub dead_at : List ℕ → ℕ → ℕ
dead_at ms pc = slice_index ms (pc % 131072)

abbrev pub registers_in : ℕ → ℕ
registers_in mask = mask % 65536

abbrev pub has_compare : ℕ → Bool
has_compare mask = nat_le 65536 mask

-- 0 in SCOMPARE1
abbrev pub compare_cleared : Bool → List ℕ → List ℕ
compare_cleared true special = slice_set special number.scompare1 0
compare_cleared false special = special

-- 0 in each of the first n registers of the window that is in the mask
abbrev pub cleared : ℕ → ℕ → List ℕ → ℕ → List ℕ
cleared mask base regs zero = regs
cleared mask base regs (suc n) =
    let rest = cleared mask base regs n in
    if bit mask n then slice_set rest (place base n) 0 else rest

abbrev pub forgotten : List ℕ → State → State
forgotten ms s =
    let mask = dead_at ms s.control.pc in
    record s {
      regs = cleared (registers_in mask) s.base s.regs 16;
      control = record s.control { special = compare_cleared (has_compare mask) s.control.special };
    }

abbrev pub side_forgotten : List ℕ → Side State → Side State
side_forgotten ms k = record k { state = forgotten ms k.state }

abbrev pub spot_forgotten : List ℕ → Spot State → Spot State
spot_forgotten ms p =
    record p { side0 = side_forgotten ms p.side0; side1 = side_forgotten ms p.side1 }

-- ---- turns that fit

abbrev pub reads_of : Fetched → Option ℕ × Option ℕ
reads_of (Fetches i len) = reads i
reads_of (Fails address) = (None, None)
reads_of SpellsNothing = (None, None)

-- the register is none of the mask
abbrev pub is_live : ℕ → Option ℕ → Bool
is_live mask None = true
is_live mask (Some r) = not (bit mask r)

abbrev pub is_written : Option RegWrite → ℕ → Bool
is_written None r = false
is_written (Some w) r = w.reg == r

-- of the first n registers each that is dead before a turn is dead after it or written by it
abbrev pub stay_dead : Option RegWrite → ℕ → ℕ → ℕ → Bool
stay_dead write before after zero = true
stay_dead write before after (suc n) =
    stay_dead write before after n
    && (not (bit before n) || (is_written write n || bit after n))

-- by the masks before and after the turn, the registers that it reads and writes, and whether it
-- stays in its window
abbrev pub are_fit : ℕ → Option ℕ × Option ℕ → Bool → Option RegWrite → ℕ → Bool
are_fit before reads stays write after =
    before == 0
    || (is_live before reads.0
    && (is_live before reads.1 && (stays && stay_dead write before after 16)))

-- by the masks before and after the turn, and whether it reads SCOMPARE1 and writes it
abbrev pub is_compare_fit : ℕ → (reads writes : Bool) → ℕ → Bool
is_compare_fit before reads writes after =
    not (has_compare before) || (not reads && (writes || has_compare after))

-- the next turn fits; its reply is no matter
abbrev pub fits : (ℕ → ℕ) → List ℕ → State → Bool
fits code ms s =
    let p = planned_turn code s in
    let at = fetch_at code s.control.pc in
    let before = dead_at ms s.control.pc in
    let after = dead_at ms p.after.control.pc in
    are_fit (registers_in before) (reads_of at) (p.after.base == s.base)
    (write_with_reply p.write p.awaited 0) (registers_in after)
    && is_compare_fit before (fetches_compare at) (executes p.kind && fetches_write at) after
