-- Carries a proof; nothing that a reader must believe.
-- What a turn of a core of a search comes to: that of the definition, as far as it is known.
use Rattle.std.specs.Prelude.{◌≡◌, ℕ, true, false, bit_or}
use Rattle.xt_map.specs.declared.contents.MemoryContents.{MemoryContents}
use Rattle.xt_map.specs.Touching.{IsMemory}
use Rattle.xt_special.specs.Control.{special_of}
use Rattle.xt_special.specs.Numbers as number
use Rattle.xt_trace.specs.declared.record.StepRecord.{StepRecord}
use Rattle.xt_trace.specs.Calls.{is_stop}
use Rattle.xt_trace.specs.Worlds.{answer, memory_left}
use Rattle.xt_search.specs.Changed.{contents_of}
use Rattle.xt_exec.specs.State.{State}
use Rattle.xt_exec.specs.Turn.{demand, turn}
use Rattle.xt_exec.specs.TurnLaws.{IsShaped}
use Rattle.xt_uses.specs.UseStep.{reply_mask}
use Rattle.xt_use_walk.specs.MaskedBytes.{is_byte}
use Rattle.xt_simulation.specs.Knowledge.{StatesAgree}
use Rattle.xt_simulation.specs.Learning.{stored_in}
use Rattle.xt_simulation.specs.SecretBytes.{mask_stored}
use Rattle.xt_simulation.specs.SecretLaws.{executed}
use Rattle.xt_moments.specs.Moments.{arms, with_timers}
use Rattle.xt_moments.specs.MomentLaws.{IsMomentKnown, known_then, moment_used}
use Rattle.xt_moments.specs.WorldLaws.{begun}
use Rattle.xt_moment_search.specs.declared.bytes.Bytes.{Bytes}
use Rattle.xt_moment_search.specs.KnownCores.{core_of, known_byte, moment_known_of}
use Rattle.xt_moment_search.specs.Sides.{KnownCore}

-- its turn in the state s
abbrev pub turn_from : (ℕ → ℕ) → State → MemoryContents → StepRecord × State
turn_from code s memory = turn code s (answer (demand code s) memory)

-- A core of which not all is known, and memory, have become these by a turn that began in the state
-- s and used known bits alone.
pub record IsTurnedFrom (code : ℕ → ℕ) (opening cleared : MemoryContents) (s : State)
    (old new : KnownCore) (b c : Bytes) : Type 0 where
  pub going : old.stopped ≡ false
  pub shaped : IsShaped new.state
  pub hidden : IsMemory (contents_of cleared b.hidden) → IsMemory (contents_of cleared c.hidden)
  pub used :
      IsMemory (contents_of cleared b.hidden)
      → moment_used code (reply_mask (known_byte cleared b.hidden) (demand code s))
      (moment_known_of old.masks) s
      ≡ true
  pub known :
      IsMemory (contents_of cleared b.hidden) → IsMomentKnown (moment_known_of old.masks)
      → moment_known_of new.masks
      ≡ known_then code (reply_mask (known_byte cleared b.hidden) (demand code s))
      (moment_known_of old.masks) s (turn_from code s (contents_of opening b.held))
  pub bytes :
      (a : ℕ) → is_byte a ≡ true
      → known_byte cleared c.hidden a
      ≡ mask_stored
      (stored_in (executed code s (turn_from code s (contents_of opening b.held)).0)
      (moment_known_of old.masks) s) (demand code s) (known_byte cleared b.hidden) a
  pub state :
      StatesAgree (moment_known_of new.masks)
      (with_timers (special_of s.control number.interrupt) (arms code s)
      (turn_from code s (contents_of opening b.held)).1) new.state
  pub armed : new.armed ≡ bit_or old.armed (arms code s)
  pub stopped : new.stopped ≡ is_stop (turn_from code s (contents_of opening b.held)).0.kind
  pub memory : contents_of opening c.held ≡ memory_left (demand code s) (contents_of opening b.held)

-- that found 0 in CCOUNT
abbrev pub IsTurned :
    (ℕ → ℕ) → MemoryContents → MemoryContents → KnownCore → KnownCore → Bytes → Bytes → Type 0
IsTurned code opening cleared old new b c =
    IsTurnedFrom code opening cleared (begun 0 (core_of old)) old new b c
