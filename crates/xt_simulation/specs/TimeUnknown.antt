-- States that time is one thing that may not be known: of the states that a core can have, the law
-- of one turn also says what a turn that uses no time keeps.
use Rattle.std.specs.Prelude.{◌≡◌, ℕ, true, false, ◌==◌, if◌then◌else◌}
use Rattle.xt_special.specs.Numbers as number
use Rattle.xt_map.specs.Code.{AreBytes}
use Rattle.xt_rows.specs.RowLaws.{IsWord}
use Rattle.xt_exec.specs.State.{State}
use Rattle.xt_exec.specs.Turn.{planned_turn, turn}
use Rattle.xt_exec.specs.TurnLaws.{IsShaped}
use Rattle.xt_uses.specs.Words.{all_bits, complement}
use Rattle.xt_simulation.specs.Knowledge.{Knowledge, StatesAgree, all_known}
use Rattle.xt_simulation.specs.TurnUses.{turn_used}
use Rattle.xt_simulation.specs.SecretLaws.{TurnsAgree}
use Rattle.xt_timeless.specs.Time.{is_of_time, timer_bits, uses_time, without_time}

-- the masks of special registers: no bit of CCOUNT and of CCOMPARE0 to CCOMPARE2 is known, and of
-- INTERRUPT no bit of a timer
abbrev pub timeless_mask : ℕ → ℕ
timeless_mask n =
    if n == number.interrupt then complement timer_bits
    else (if is_of_time n then 0 else all_bits)

-- each bit is known but those of time
abbrev pub all_but_time : Knowledge
all_but_time = record all_known { special = timeless_mask }

-- Two states that are equal but for time agree in what is known then. The next turn uses known bits
-- alone, so by the law of one turn both turns agree; and the states that they leave are equal but
-- for time.
pub record IsInstance (code : ℕ → ℕ) (s t : State) (reply : ℕ) : Type 0 where
  pub agree : StatesAgree all_but_time s t
  pub used :
      turn_used
      code
      (planned_turn code s).kind
      (planned_turn code s).access
      all_bits
      all_but_time
      s
      ≡ true
  pub turns : TurnsAgree code all_bits all_but_time s (turn code s reply) (turn code t reply)
  pub after : without_time (turn code s reply).1 ≡ without_time (turn code t reply).1

abbrev pub TimeIsUnknown : Type 0
TimeIsUnknown =
    (code : ℕ → ℕ) (s t : State) (reply : ℕ)
    → AreBytes code → IsShaped s → IsShaped t → IsWord reply
    → without_time s ≡ without_time t → uses_time code s ≡ false → IsInstance code s t reply
