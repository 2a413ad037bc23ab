-- States laws of time: where two cores or two worlds are equal but for it, turns that use no time
-- keep them so. Where they are equal but for bits of timers in INTERRUPT, turns keep them so that take
-- no other interrupt for it and read no register of time.
use Rattle.std.specs.Prelude.{◌≡◌, ℕ, zero, suc, ◌≤◌, true, false, ◌&&◌, ◌⊎◌, List, [], ◌∷◌}
use Rattle.std.specs.Prelude.{length, slice_set}
use Rattle.xt_special.specs.Numbers as number
use Rattle.xt_special.specs.Access.{without_bits}
use Rattle.xt_special.specs.Control.{special_of}
use Rattle.xt_special.specs.Interrupts.{pending_of}
use Rattle.xt_map.specs.Code.{AreBytes}
use Rattle.xt_map.specs.Fetching.{fetch_at}
use Rattle.xt_trace.specs.Traces.{has_stopped}
use Rattle.xt_trace.specs.Worlds.{Core, World, advance, give}
use Rattle.xt_exec.specs.Chips.{processor}
use Rattle.xt_exec.specs.State.{State}
use Rattle.xt_exec.specs.Turn.{Planned, planned_turn}
use Rattle.xt_timeless.specs.Time.{AreEqualButForTime, executes, fetches_compare, fetches_time, fetches_write}
use Rattle.xt_timeless.specs.Time.{timer_bits, uses_time, without_time}

-- ---- one turn

-- what the turn is, what it writes and asks for are the same, and the states that it leaves are
-- equal but for time
pub record AreSame (p q : Planned) : Type 0 where
  pub kind : p.kind ≡ q.kind
  pub write : p.write ≡ q.write
  pub access : p.access ≡ q.access
  pub awaited : p.awaited ≡ q.awaited
  pub after : without_time p.after ≡ without_time q.after

-- from states that are equal but for time, a turn that uses no time is the same
abbrev pub TurnsKeepTimeOut : Type 0
TurnsKeepTimeOut =
    (code : ℕ → ℕ) (s t : State) → AreBytes code → without_time s ≡ without_time t
    → uses_time code s ≡ false → AreSame (planned_turn code s) (planned_turn code t)

-- and it uses time in both or in neither
abbrev pub TimeIsUsedByBoth : Type 0
TimeIsUsedByBoth =
    (code : ℕ → ℕ) (s t : State) → AreBytes code → without_time s ≡ without_time t
    → uses_time code s ≡ uses_time code t

-- ---- the bits of timers in INTERRUPT

-- INTERRUPT is this word
abbrev pub with_interrupt : ℕ → State → State
with_interrupt v s = record s {
  control = record s.control { special = slice_set s.control.special number.interrupt v };
}

-- they are equal but for the bits of timers in INTERRUPT after them
pub record DifferInTimers (p q : Planned) : Type 0 where
  pub kind : p.kind ≡ q.kind
  pub write : p.write ≡ q.write
  pub access : p.access ≡ q.access
  pub awaited : p.awaited ≡ q.awaited
  pub interrupt : ℕ
  pub others : without_bits interrupt timer_bits
      ≡ without_bits (special_of p.after.control number.interrupt) timer_bits
  pub after : q.after ≡ with_interrupt interrupt p.after

-- If other bits of timers in INTERRUPT let the same interrupt in, or none, a turn that does not read a
-- register of time is the same.
abbrev pub TimersWait : Type 0
TimersWait =
    (code : ℕ → ℕ) (s : State) (v : ℕ) → AreBytes code
    → without_bits v timer_bits
    ≡ without_bits (special_of s.control number.interrupt) timer_bits
    → pending_of (with_interrupt v s).control ≡ pending_of s.control
    → (executes (planned_turn code s).kind && fetches_time (fetch_at code s.control.pc)) ≡ false
    → DifferInTimers (planned_turn code s) (planned_turn code (with_interrupt v s))

-- ---- SCOMPARE1

-- SCOMPARE1 is this word
abbrev pub with_compare : ℕ → State → State
with_compare v s = record s {
  control = record s.control { special = slice_set s.control.special number.scompare1 v };
}

-- they are equal but for SCOMPARE1 after them
pub record DifferInCompare (p q : Planned) : Type 0 where
  pub kind : p.kind ≡ q.kind
  pub write : p.write ≡ q.write
  pub access : p.access ≡ q.access
  pub awaited : p.awaited ≡ q.awaited
  pub compare : ℕ
  pub after : q.after ≡ with_compare compare p.after

-- From states that are equal but for SCOMPARE1, a turn that does not read it is the same.
abbrev pub CompareWaits : Type 0
CompareWaits =
    (code : ℕ → ℕ) (s : State) (v : ℕ)
    → fetches_compare (fetch_at code s.control.pc) ≡ false
    → DifferInCompare (planned_turn code s) (planned_turn code (with_compare v s))

-- A turn that executes WSR of SCOMPARE1 leaves equal states.
abbrev pub CompareIsWritten : Type 0
CompareIsWritten =
    (code : ℕ → ℕ) (s : State) (v : ℕ)
    → (executes (planned_turn code s).kind && fetches_write (fetch_at code s.control.pc)) ≡ true
    → planned_turn code (with_compare v s) ≡ planned_turn code s

-- ---- the turns of a list

abbrev pub core_of : {S : Type 0} → ℕ → World S → Core S
core_of zero w = w.core0
core_of (suc c) w = w.core1

-- a core that has not stopped has this many turns left at least, and one that has stopped has none
abbrev pub HasTurns : {S : Type 0} → ℕ → Core S → Type 0
HasTurns n k = (has_stopped k.records ≡ true → k.left ≡ 0)
    × (has_stopped k.records ≡ false → n ≤ k.left)

abbrev pub HaveTurns : {S : Type 0} → ℕ → World S → Type 0
HaveTurns n w = HasTurns n w.core0 × HasTurns n w.core1

-- no turn that is made uses time
abbrev pub KeepTimeOut : (ℕ → ℕ) → List ℕ → World State → Type 0
KeepTimeOut code [] w = Unit {0}
KeepTimeOut code (c ∷ cs) w =
    ((has_stopped (core_of c w).records ≡ true) ⊎ (uses_time code (core_of c w).state ≡ false))
    × KeepTimeOut code cs (give (processor code) c w)

-- from worlds that are equal but for time, turns that use no time lead to worlds that are equal but
-- for time
abbrev pub WorldsKeepTimeOut : Type 0
WorldsKeepTimeOut =
    (code : ℕ → ℕ) (order : List ℕ) (v w : World State) → AreBytes code → AreEqualButForTime v w
    → HaveTurns (length order) v → HaveTurns (length order) w → KeepTimeOut code order v
    → AreEqualButForTime (advance (processor code) order v) (advance (processor code) order w)
