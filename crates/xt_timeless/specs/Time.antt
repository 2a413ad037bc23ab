-- Time: what of a core's state the passing of turns alone changes, and which turns use it ('profile').
--
-- Note: `uses_time` tests INTENABLE before the turn, whatever the turn is, and what the turn
-- executes; an instruction that raises an exception in its turn executes nothing.
use Rattle.std.specs.Prelude.{◌≡◌, ℕ, Bool, true, false, ◌==◌, ◌&&◌, ◌||◌, not, List}
use Rattle.std.specs.Prelude.{slice_index, slice_set, bit_and}
use Rattle.xt_isa.specs.declared.Insn.{Insn}
use Rattle.xt_isa.specs.declared.Insn.TheVariants as insn
use Rattle.xt_isa.specs.declared.memory.Memory.TheVariants as memory
use Rattle.xt_isa.specs.declared.system.System.TheVariants as system
use Rattle.xt_isa.specs.declared.system.SpecialName.TheVariants as SpecialName
use Rattle.xt_special.specs.Numbers as number
use Rattle.xt_special.specs.Access.{without_bits}
use Rattle.xt_special.specs.Control.{special_of}
use Rattle.xt_trace.specs.declared.record.StepKind.{StepKind}
use Rattle.xt_trace.specs.declared.record.StepKind.TheVariants as kind
use Rattle.xt_trace.specs.Traces.{has_stopped}
use Rattle.xt_trace.specs.Worlds.{World}
use Rattle.xt_map.specs.Fetching.{Fetched, Fetches, Fails, SpellsNothing, fetch_at}
use Rattle.xt_exec.specs.State.{State}
use Rattle.xt_exec.specs.Turn.{planned_turn}

-- bits 6, 15 and 16, which the timers set
abbrev pub timer_bits : ℕ
timer_bits = 0x18040

-- ---- equal but for time

-- with CCOUNT and CCOMPARE0 to CCOMPARE2 at 0, and INTERRUPT without the bits of the timers
abbrev pub special_without_time : List ℕ → List ℕ
special_without_time special =
    slice_set (slice_set (slice_set (slice_set (slice_set special number.ccount 0)
    (number.ccompare 0) 0) (number.ccompare 1) 0) (number.ccompare 2) 0)
    number.interrupt (without_bits (slice_index special number.interrupt) timer_bits)

abbrev pub without_time : State → State
without_time s =
    record s { control = record s.control { special = special_without_time s.control.special } }

-- both cores' states but for time, whether they have stopped, memory, and what was sent
pub record AreEqualButForTime (v w : World State) : Type 0 where
  pub state0 : without_time v.core0.state ≡ without_time w.core0.state
  pub state1 : without_time v.core1.state ≡ without_time w.core1.state
  pub stopped0 : has_stopped v.core0.records ≡ has_stopped w.core0.records
  pub stopped1 : has_stopped v.core1.records ≡ has_stopped w.core1.records
  pub memory : v.line.memory ≡ w.line.memory

-- ---- turns that use time

-- CCOUNT, CCOMPARE0 to CCOMPARE2 and INTERRUPT
abbrev pub is_of_time : ℕ → Bool
is_of_time n =
    n == number.ccount || (n == number.interrupt
    || (n == number.ccompare 0 || (n == number.ccompare 1 || n == number.ccompare 2)))

-- RSR or XSR of one of them
abbrev pub reads_time : Insn → Bool
reads_time (insn.System (system.Special SpecialName.Rsr t n)) = is_of_time n
reads_time (insn.System (system.Special SpecialName.Xsr t n)) = is_of_time n
reads_time _ = false

-- S32C1I, or RSR or XSR of SCOMPARE1
abbrev pub reads_compare : Insn → Bool
reads_compare (insn.Memory (memory.S32c1i t s offset)) = true
reads_compare (insn.System (system.Special SpecialName.Rsr t n)) = n == number.scompare1
reads_compare (insn.System (system.Special SpecialName.Xsr t n)) = n == number.scompare1
reads_compare _ = false

-- WSR of SCOMPARE1
abbrev pub writes_compare : Insn → Bool
writes_compare (insn.System (system.Special SpecialName.Wsr t n)) = n == number.scompare1
writes_compare _ = false

abbrev pub fetches_write : Fetched → Bool
fetches_write (Fetches i len) = writes_compare i
fetches_write (Fails address) = false
fetches_write SpellsNothing = false

abbrev pub fetches_compare : Fetched → Bool
fetches_compare (Fetches i len) = reads_compare i
fetches_compare (Fails address) = false
fetches_compare SpellsNothing = false

abbrev pub fetches_time : Fetched → Bool
fetches_time (Fetches i len) = reads_time i
fetches_time (Fails address) = false
fetches_time SpellsNothing = false

abbrev pub executes : StepKind → Bool
executes kind.Insn = true
executes _ = false

-- INTENABLE has the bit of a timer before the turn, or the turn executes RSR or XSR of a register of
-- time
abbrev pub uses_time : (ℕ → ℕ) → State → Bool
uses_time code s =
    not (bit_and (special_of s.control number.intenable) timer_bits == 0)
    || (executes (planned_turn code s).kind && fetches_time (fetch_at code s.control.pc))
