-- Orders with moments: each armed timer fires before any turn of its core, or never ('profile').
--
-- An order with moments is a list of moves: a turn of a core, or a timer of a core that fires. WSR
-- or XSR of its CCOMPARE arms a timer, and clears its bit of INTERRUPT. An armed timer that fires
-- sets its bit, and is armed no more. Nothing else sets the bits of the timers.
--
-- Profile: CCOUNT is any number at each turn. That CCOUNT equals a CCOMPARE sets nothing. A core
-- that has stopped makes no turn, and a timer that is not armed does not fire.
use Rattle.std.specs.Prelude.{ℕ, zero, suc, ◌<◌, Bool, false, ◌==◌, not, if◌then◌else◌}
use Rattle.std.specs.Prelude.{List, [], ◌∷◌, slice_set, bit_and, bit_or}
use Rattle.xt_isa.specs.declared.Insn.{Insn}
use Rattle.xt_isa.specs.declared.Insn.TheVariants as insn
use Rattle.xt_isa.specs.declared.system.System.TheVariants as system
use Rattle.xt_isa.specs.declared.system.SpecialName.TheVariants as SpecialName
use Rattle.xt_map.specs.declared.contents.MemoryContents.{MemoryContents}
use Rattle.xt_special.specs.Access.{is_ccompare, timer_bit, without_bits}
use Rattle.xt_special.specs.Control.{special_of}
use Rattle.xt_special.specs.Numbers as number
use Rattle.xt_map.specs.Fetching.{Fetched, Fetches, Fails, SpellsNothing, fetch_at}
use Rattle.xt_trace.specs.declared.record.StepKind.{StepKind}
use Rattle.xt_trace.specs.Calls.{is_stop}
use Rattle.xt_trace.specs.Runs.{Opening}
use Rattle.xt_trace.specs.Worlds.{answer, memory_left}
use Rattle.xt_exec.specs.State.{State}
use Rattle.xt_exec.specs.Turn.{demand, planned_turn, turn}
use Rattle.xt_timeless.specs.Time.{executes, timer_bits}
use Rattle.xt_moments.specs.declared.moves.Move.{Move}
use Rattle.xt_moments.specs.declared.moves.Move.TheVariants as move

-- ---- a core, and a world

-- its state, the bits of INTERRUPT whose timers are armed, and whether it has stopped
pub record MomentCore : Type 0 where
  pub state : State
  pub armed : ℕ
  pub stopped : Bool

pub record MomentWorld : Type 0 where
  pub core0 : MomentCore
  pub core1 : MomentCore
  pub memory : MemoryContents

-- as a run opens no timer is armed
abbrev pub opening_core : State → MomentCore
opening_core s = record { state = s; armed = 0; stopped = false }

abbrev pub opening_world : Opening State → MomentWorld
opening_world o =
    record { core0 = opening_core o.state0; core1 = opening_core o.state1; memory = o.memory }

-- ---- what arms a timer

-- the bit whose timer a write of this special register arms, or 0
abbrev pub armed_by_write : ℕ → ℕ
armed_by_write n = if is_ccompare n then timer_bit n else 0

abbrev pub armed_by : Insn → ℕ
armed_by (insn.System (system.Special SpecialName.Wsr t n)) = armed_by_write n
armed_by (insn.System (system.Special SpecialName.Xsr t n)) = armed_by_write n
armed_by _ = 0

abbrev pub armed_by_fetched : Fetched → ℕ
armed_by_fetched (Fetches i len) = armed_by i
armed_by_fetched (Fails address) = 0
armed_by_fetched SpellsNothing = 0

-- by the kind of a turn, and by what its program counter fetches
abbrev pub armed_in : StepKind → Fetched → ℕ
armed_in kind fetched = if executes kind then armed_by_fetched fetched else 0

-- the bit whose timer the next turn arms, or 0
abbrev pub arms : (ℕ → ℕ) → State → ℕ
arms code s = armed_in (planned_turn code s).kind (fetch_at code s.control.pc)

-- ---- a turn

abbrev pub with_special : ℕ → ℕ → State → State
with_special n x s =
    record s { control = record s.control { special = slice_set s.control.special n x } }

-- INTERRUPT after a turn that began with `before`, arms the timers of `armed` and left `after`: the
-- bits of the timers are those that were set before and whose timers the turn does not arm
abbrev pub interrupt_past : ℕ → ℕ → ℕ → ℕ
interrupt_past before armed after =
    bit_or (without_bits after timer_bits) (without_bits (bit_and before timer_bits) armed)

-- a state that a turn left, which began with this INTERRUPT and arms these timers
abbrev pub with_timers : ℕ → ℕ → State → State
with_timers before armed s =
    with_special number.interrupt
    (interrupt_past before armed (special_of s.control number.interrupt)) s

-- a core after its next turn, at which CCOUNT is this number
abbrev pub core_turned : (ℕ → ℕ) → ℕ → MomentCore → MemoryContents → MomentCore
core_turned code count k m =
    let s = with_special number.ccount count k.state in
    let reply = answer (demand code s) m in record {
      state = with_timers (special_of s.control number.interrupt) (arms code s)
          (turn code s reply).1;
      armed = bit_or k.armed (arms code s);
      stopped = is_stop (turn code s reply).0.kind;
    }

-- or as it is, where it has stopped
abbrev pub core_past : (ℕ → ℕ) → ℕ → MomentCore → MemoryContents → MomentCore
core_past code count k m = if k.stopped then k else core_turned code count k m

abbrev pub memory_past : (ℕ → ℕ) → ℕ → MomentCore → MemoryContents → MemoryContents
memory_past code count k m =
    if k.stopped then m else memory_left (demand code (with_special number.ccount count k.state)) m

-- ---- a timer that fires

abbrev pub is_armed : ℕ → MomentCore → Bool
is_armed timer k = not (bit_and k.armed (timer_bit (number.ccompare timer)) == 0)

abbrev pub core_fired : ℕ → MomentCore → MomentCore
core_fired timer k =
    let bit = timer_bit (number.ccompare timer) in
    let interrupt = special_of k.state.control number.interrupt in
    if is_armed timer k then record {
      state = with_special number.interrupt (bit_or interrupt bit) k.state;
      armed = without_bits k.armed bit;
      stopped = k.stopped;
    } else k

-- ---- the moves of an order

-- of two cores with three timers each
abbrev pub IsMove : Move → Type 0
IsMove (move.Turn c) = c < 2
IsMove (move.Fires c timer) = (c < 2) × (timer < 3)

-- the world after a move; a turn finds this number in CCOUNT
abbrev pub moved : (ℕ → ℕ) → ℕ → Move → MomentWorld → MomentWorld
moved code count (move.Turn zero) w = record w {
  core0 = core_past code count w.core0 w.memory;
  memory = memory_past code count w.core0 w.memory;
}
moved code count (move.Turn (suc c)) w = record w {
  core1 = core_past code count w.core1 w.memory;
  memory = memory_past code count w.core1 w.memory;
}
moved code count (move.Fires zero timer) w = record w { core0 = core_fired timer w.core0 }
moved code count (move.Fires (suc c) timer) w = record w { core1 = core_fired timer w.core1 }

-- the world after an order with moments, where `counts` gives CCOUNT at each move
abbrev pub world_past : (ℕ → ℕ) → (ℕ → ℕ) → List Move → MomentWorld → MomentWorld
world_past code counts [] w = w
world_past code counts (x ∷ xs) w =
    world_past code (λ k. counts (suc k)) xs (moved code (counts 0) x w)
