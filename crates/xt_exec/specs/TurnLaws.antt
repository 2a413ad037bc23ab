-- States laws of the turn as a whole. Conditions of other public laws cite its ranges, those of the
-- parts of a state.
use Rattle.std.specs.Prelude.{◌≡◌, ℕ, ◌%◌, ◌^◌, ◌<◌, ◌≤◌, true, Option, Some, None, List, length}
use Rattle.std.specs.Prelude.{slice_index}
use Rattle.xt_map.specs.declared.access.Access.{Access}
use Rattle.xt_map.specs.Regions.{is_mapped}
use Rattle.xt_special.specs.Control.{Control}
use Rattle.xt_special.specs.Shape.{IsPs, HasShape}
use Rattle.xt_trace.specs.declared.record.StepRecord.{StepRecord}
use Rattle.xt_map.specs.Code.{AreBytes}
use Rattle.xt_rows.specs.RowLaws.{IsWord}
use Rattle.xt_exec.specs.State.{State, opening_state}
use Rattle.xt_exec.specs.Turn.{demand, turn}

-- ---- one record and one next state

-- the turn as a relation: in the state s, with this reply, the core makes the record r
-- and comes to the state t
abbrev pub IsTurn : (ℕ → ℕ) → State → ℕ → StepRecord → State → Type 0
IsTurn code s reply r t = turn code s reply ≡ (r, t)

-- there is a record and a next state, and no other
abbrev pub IsOneTurn : Type 0
IsOneTurn =
    (code : ℕ → ℕ) (s : State) (reply : ℕ)
    → (r : StepRecord) × (t : State) × IsTurn code s reply r t
    × ((r2 : StepRecord) (t2 : State) → IsTurn code s reply r2 t2 → (r2 ≡ r) × (t2 ≡ t))

-- a record has an access exactly where one was asked for
abbrev pub RecordsWhatItAsks : Type 0
RecordsWhatItAsks =
    (code : ℕ → ℕ) (s : State) (reply : ℕ) → (turn code s reply).0.access ≡ demand code s

-- a turn that asks for no access does not look at the reply
abbrev pub IgnoresReplyWithoutAccess : Type 0
IgnoresReplyWithoutAccess =
    (code : ℕ → ℕ) (s : State) (a b : ℕ) → demand code s ≡ None → turn code s a ≡ turn code s b

-- ---- the shape of a state

-- each entry of a list is a word
abbrev pub AreWords : List ℕ → Type 0
AreWords xs = (k : ℕ) → IsWord (slice_index xs k)

-- the control state: words, 256 special registers, of which SAR keeps six bits and VECBASE is a
-- multiple of 1024, and PS's fields
pub record IsShapedControl (c : Control) : Type 0 where
  pub pc : IsWord c.pc
  pub count : length c.special ≡ 256
  pub words : AreWords c.special
  pub shape : HasShape c.special
  pub ps : IsPs c.ps
  pub threadptr : IsWord c.threadptr

-- 64 registers that hold words, WINDOWBASE of four bits and WINDOWSTART of sixteen
pub record IsShaped (s : State) : Type 0 where
  pub count : length s.regs ≡ 64
  pub words : AreWords s.regs
  pub base : s.base < 16
  pub start : s.start < 2 ^ 16
  pub control : IsShapedControl s.control

-- a turn from a shaped state, with a reply that is a word, leaves a shaped state
abbrev pub KeepsShape : Type 0
KeepsShape =
    (code : ℕ → ℕ) (s : State) (reply : ℕ) → AreBytes code → IsShaped s → IsWord reply
    → IsShaped (turn code s reply).1

abbrev pub OpensShaped : Type 0
OpensShaped =
    (core pc vecbase stack_end : ℕ)
    → IsWord pc → vecbase % 2 ^ 10 ≡ 0 → IsWord vecbase → 64 ≤ stack_end → IsWord stack_end
    → IsShaped (opening_state core pc vecbase stack_end)

-- ---- what a turn asks for

abbrev pub IsServed : Option Access → Type 0
IsServed None = Unit {0}
IsServed (Some a) = is_mapped a ≡ true

-- it is an access that the bus serves
abbrev pub DemandsAreServed : Type 0
DemandsAreServed = (code : ℕ → ℕ) (s : State) → IsServed (demand code s)
