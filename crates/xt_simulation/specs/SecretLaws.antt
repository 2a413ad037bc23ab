-- States the law of one turn: two states that agree in what is known make turns that agree in what
-- is known then, if the turn of one uses known bits alone.
use Rattle.std.specs.Prelude.{◌≡◌, ℕ, ◌%◌, true, Option, Some, None}
use Rattle.xt_map.specs.declared.access.Access.{Access}
use Rattle.xt_map.specs.declared.access.Kind.{Kind}
use Rattle.xt_map.specs.declared.access.Kind.TheVariants.{Store}
use Rattle.xt_map.specs.Regions.{uart_transmit}
use Rattle.xt_trace.specs.declared.record.StepRecord.{StepRecord}
use Rattle.xt_trace.specs.declared.record.RegWrite.{RegWrite}
use Rattle.xt_map.specs.Code.{AreBytes}
use Rattle.xt_map.specs.Fetching.{fetch_at}
use Rattle.xt_rows.specs.RowLaws.{IsWord}
use Rattle.xt_exec.specs.State.{State}
use Rattle.xt_exec.specs.Turn.{planned_turn, turn}
use Rattle.xt_exec.specs.TurnLaws.{IsShaped}
use Rattle.xt_isa.specs.declared.Insn.{Insn}
use Rattle.xt_uses.specs.Words.{all_bits}
use Rattle.xt_uses.specs.UseLaws.{AgreeIn, AccessesAgree, WritesAgree}
use Rattle.xt_uses.specs.UseStep.{reply_mask, step_insn}
use Rattle.xt_simulation.specs.Knowledge.{AreMasks, Knowledge, StatesAgree, second_word}
use Rattle.xt_simulation.specs.TurnUses.{turn_used}
use Rattle.xt_simulation.specs.Learning.{doubtful, known_past, stored_in, written_mask}

-- ---- what two turns have in common

-- the same address, size and kind of access; a compare-and-swap of the same words; what is stored
-- agrees in the mask
abbrev pub AccessAgrees : ℕ → Option Access → Option Access → Type 0
AccessAgrees stored None None = Unit {0}
AccessAgrees stored (Some a) (Some b) = AccessesAgree stored a b
AccessAgrees stored _ _ = ⊥

-- the same byte is sent
abbrev pub SendAgrees : Kind → Kind → Type 0
SendAgrees (Store v) (Store w) = v % 256 ≡ w % 256
SendAgrees _ _ = Unit {0}

abbrev pub SentAgrees : Option Access → Option Access → Type 0
SentAgrees (Some a) (Some b) = a.addr ≡ uart_transmit → SendAgrees a.kind b.kind
SentAgrees _ _ = Unit {0}

-- a register that is written is this one
abbrev pub IsOf : ℕ → Option RegWrite → Type 0
IsOf r None = Unit {0}
IsOf r (Some w) = w.reg ≡ r

-- The same register is written, or none. A conditional move whose condition is not known may write
-- in one turn alone.
abbrev pub WriteAgrees : Option ℕ → ℕ → Option RegWrite → Option RegWrite → Type 0
WriteAgrees None mask v w = WritesAgree mask v w
WriteAgrees (Some r) mask v w = IsOf r v × IsOf r w

-- by the instruction that is executed, if one is
abbrev pub TurnWritesAgree :
    Option Insn → ℕ → Knowledge → State → Option RegWrite → Option RegWrite → Type 0
TurnWritesAgree None reply m s v w = v ≡ w
TurnWritesAgree (Some i) reply m s v w =
    WriteAgrees (doubtful i (second_word i m s)) (written_mask i reply m s) v w

-- ---- one turn

-- the instruction that a turn of s of this record executes
abbrev pub executed : (ℕ → ℕ) → State → StepRecord → Option Insn
executed code s rec = step_insn rec.kind (fetch_at code s.control.pc)

-- two turns, of which the first was one of s
pub record TurnsAgree
    (code : ℕ → ℕ) (reply : ℕ) (m : Knowledge) (s : State) (x y : StepRecord × State)
    : Type 0 where
  pub place : x.0.pc ≡ y.0.pc
  pub kind : x.0.kind ≡ y.0.kind
  pub access : AccessAgrees (stored_in (executed code s x.0) m s) x.0.access y.0.access
  pub sent : SentAgrees x.0.access y.0.access
  pub write : TurnWritesAgree (executed code s x.0) reply m s x.0.write y.0.write
  pub after :
      StatesAgree (known_past (executed code s x.0) x.0.write x.1.base reply m s) x.1 y.1

-- where nothing is asked, nothing is in doubt of the reply
abbrev pub FitsAccess : Option Access → ℕ → Type 0
FitsAccess None reply = reply ≡ all_bits
FitsAccess (Some a) reply = Unit {0}

-- The states are those of cores, the replies agree in the bits of the mask `reply`, and the first
-- turn uses known bits alone. Then the turns agree.
abbrev pub TurnsWithKnownUsesAgree : Type 0
TurnsWithKnownUsesAgree =
    (code : ℕ → ℕ) (m : Knowledge) (s t : State) (reply v w : ℕ)
    → AreBytes code → AreMasks m → IsShaped s → IsShaped t → StatesAgree m s t
    → IsWord reply → IsWord v → IsWord w → AgreeIn reply v w
    → FitsAccess (planned_turn code s).access reply
    → turn_used code (planned_turn code s).kind (planned_turn code s).access reply m s ≡ true
    → TurnsAgree code reply m s (turn code s v) (turn code t w)

-- both turns use known bits alone, or neither does, if the bytes that they read have these masks
abbrev pub TurnsUseAlike : Type 0
TurnsUseAlike =
    (code : ℕ → ℕ) (bytes : ℕ → ℕ) (m : Knowledge) (s t : State)
    → AreBytes code → AreMasks m → IsShaped s → IsShaped t → StatesAgree m s t
    → (let p = planned_turn code s in
    let q = planned_turn code t in
    turn_used code p.kind p.access (reply_mask bytes p.access) m s
    ≡ turn_used code q.kind q.access (reply_mask bytes q.access) m t)

-- and what is known then are words again
abbrev pub MasksStay : Type 0
MasksStay =
    (code : ℕ → ℕ) (m : Knowledge) (s : State) (reply v : ℕ)
    → AreBytes code → AreMasks m → IsWord reply
    → (let x = turn code s v in
    AreMasks (known_past (executed code s x.0) x.0.write x.1.base reply m s))
