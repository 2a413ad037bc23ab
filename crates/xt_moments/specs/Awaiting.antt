-- Carries a proof; nothing that a reader must believe.
-- Turns that a search has made already, though an order with moments makes other moves first: a turn
-- that nothing else can come between, or whatever comes between leaves what it does as it is.
use Rattle.std.specs.Prelude.{◌≡◌, ℕ, zero, suc, ◌<◌, Bool, true, false, Option, None, List, [], ◌∷◌}
use Rattle.std.specs.Prelude.{length, bit_or, map}
use Rattle.xt_map.specs.declared.access.Access.{Access}
use Rattle.xt_map.specs.declared.contents.MemoryContents.{MemoryContents}
use Rattle.xt_map.specs.Fetching.{fetch_at}
use Rattle.xt_special.specs.Access.{timer_bit, without_bits}
use Rattle.xt_special.specs.Control.{special_of}
use Rattle.xt_special.specs.Interrupts.{pending_of}
use Rattle.xt_special.specs.Numbers as number
use Rattle.xt_trace.specs.Worlds.{answer}
use Rattle.xt_rows.specs.RowLaws.{IsWord}
use Rattle.xt_exec.specs.State.{State}
use Rattle.xt_exec.specs.Turn.{demand, turn}
use Rattle.xt_timeless.specs.Time.{fetches_time}
use Rattle.xt_moments.specs.Moments.{MomentCore, MomentWorld, armed_by_fetched, is_armed, moved}
use Rattle.xt_moments.specs.Moments.{with_special}
use Rattle.xt_moments.specs.declared.moves.Move.{Move}
use Rattle.xt_moments.specs.declared.moves.Move.TheVariants as move

-- ---- a turn before which an armed timer may fire or not

abbrev pub bit_of : ℕ → ℕ
bit_of timer = timer_bit (number.ccompare timer)

-- The timer is armed. If its bit were set, the same interrupt could be taken, or none; and what the
-- program counter fetches neither reads a register of time nor writes a CCOMPARE.
pub record IsDeaf (code : ℕ → ℕ) (timer : ℕ) (k : MomentCore) : Type 0 where
  pub few : timer < 3
  pub armed : is_armed timer k ≡ true
  pub pending :
      pending_of
      (with_special number.interrupt
      (bit_or (special_of k.state.control number.interrupt) (bit_of timer)) k.state).control
      ≡ pending_of k.state.control
  pub free : fetches_time (fetch_at code k.state.control.pc) ≡ false
  pub arms_none : armed_by_fetched (fetch_at code k.state.control.pc) ≡ 0

-- ---- a turn that is apart from what the other core does

-- The other core has stopped, and none of its timers is armed. Or the turn makes no access.
abbrev pub IsApart :
    (ℕ → ℕ) → Bool → MomentCore → MomentCore → MemoryContents → Type 0
IsApart code true k other m =
    (other.stopped ≡ true) × (other.armed ≡ 0)
    × ((count : ℕ) → IsWord count
    → IsWord (answer (demand code (with_special number.ccount count k.state)) m))
IsApart code false k other m =
    (count : ℕ) → IsWord count → demand code (with_special number.ccount count k.state) ≡ None

-- of a core with these timers armed
pub record IsReady (code : ℕ → ℕ) (armed : ℕ) (alone : Bool) (k other : MomentCore)
    (m : MemoryContents) : Type 0 where
  pub armed_is : k.armed ≡ armed
  pub deaf : (timer : ℕ) → timer < 3 → is_armed timer k ≡ true
      → IsDeaf code timer k × (without_bits k.armed (bit_of timer) ≡ 0)
  pub long : 226 < length k.state.control.special
  pub after_long : (count reply : ℕ) → IsWord count → IsWord reply
      → 226 < length
      (turn code (with_special number.ccount count k.state) reply).1.control.special
  pub apart : IsApart code alone k other m

-- ---- turns that were made already

-- of a core, with these timers armed, whether or not the other core has stopped
pub record Made : Type 0 where
  pub core : ℕ
  pub armed : ℕ
  pub alone : Bool

abbrev pub IsReadyIn : (ℕ → ℕ) → Made → ℕ → MomentWorld → Type 0
IsReadyIn code e zero u = IsReady code e.armed e.alone u.core0 u.core1 u.memory
IsReadyIn code e (suc c) u = IsReady code e.armed e.alone u.core1 u.core0 u.memory

-- A world for which this holds after these turns, whatever CCOUNT is at each.
abbrev pub Awaits : (ℕ → ℕ) → (MomentWorld → Type 0) → List Made → MomentWorld → Type 0
Awaits code P [] u = P u
Awaits code P (e ∷ es) u =
    IsReadyIn code e e.core u
    × ((count : ℕ) → IsWord count
    → Awaits code P es (moved code count (move.Turn e.core) u))

-- the moves that they are
abbrev pub turn_in : ℕ → Move
turn_in zero = move.Turn 0
turn_in (suc c) = move.Turn 1

abbrev pub turns_in : List Made → List Move
turns_in es = map (λ (e : Made). turn_in e.core) es
