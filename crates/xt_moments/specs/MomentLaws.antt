-- States the law of one turn of a core whose timers fire at any moment: the clocks, CCOUNT and
-- CCOMPARE0 to CCOMPARE2, are not known, and INTERRUPT is. Two cores that agree in what is known
-- make turns that agree in what is known then, whatever CCOUNT was, if the turn of one uses known
-- bits alone.
use Rattle.std.specs.Prelude.{◌≡◌, ℕ, Bool, true, false, ◌==◌, ◌&&◌, ◌||◌, not, if◌then◌else◌}
use Rattle.std.specs.Prelude.{Option, Some, None}
use Rattle.xt_isa.specs.declared.Insn.{Insn}
use Rattle.xt_isa.specs.declared.Insn.TheVariants as insn
use Rattle.xt_isa.specs.declared.system.System.TheVariants as system
use Rattle.xt_isa.specs.declared.system.SpecialName.TheVariants as SpecialName
use Rattle.xt_special.specs.declared.ps.Ps.{Ps}
use Rattle.xt_special.specs.Control.{special_of}
use Rattle.xt_special.specs.Numbers as number
use Rattle.xt_trace.specs.declared.record.RegWrite.{RegWrite}
use Rattle.xt_trace.specs.declared.record.StepKind.{StepKind}
use Rattle.xt_trace.specs.declared.record.StepKind.TheVariants as kind
use Rattle.xt_trace.specs.declared.record.StepRecord.{StepRecord}
use Rattle.xt_map.specs.Code.{AreBytes}
use Rattle.xt_map.specs.Fetching.{fetch_at}
use Rattle.xt_rows.specs.RowLaws.{IsWord}
use Rattle.xt_exec.specs.State.{State}
use Rattle.xt_exec.specs.Turn.{planned_turn, turn}
use Rattle.xt_exec.specs.TurnLaws.{IsShaped}
use Rattle.xt_frames.specs.Marks.{holds_marks}
use Rattle.xt_uses.specs.Words.{all_bits}
use Rattle.xt_uses.specs.UseStep.{step_insn}
use Rattle.xt_uses.specs.UseLaws.{AgreeIn}
use Rattle.xt_simulation.specs.Knowledge.{AreMasks, Knowledge, StatesAgree}
use Rattle.xt_simulation.specs.TurnUses.{found_used, turn_used}
use Rattle.xt_simulation.specs.Learning.{known_past, with_mask}
use Rattle.xt_simulation.specs.SecretLaws.{FitsAccess, TurnsAgree, executed}
use Rattle.xt_moments.specs.Moments.{arms, with_special, with_timers}

-- ---- what is known

-- CCOUNT and CCOMPARE0 to CCOMPARE2
abbrev pub is_clock : ℕ → Bool
is_clock n =
    n == number.ccount
    || (n == number.ccompare 0 || (n == number.ccompare 1 || n == number.ccompare 2))

-- EPC1, EXCSAVE1 to EXCSAVE7 and MISC0 to MISC3
abbrev pub may_be_lost : ℕ → Bool
may_be_lost n = n == number.epc 1 || holds_marks n

-- nothing of a clock, and each bit of the other special registers but those that may be lost
pub record IsMomentKnown (m : Knowledge) : Type 0 where
  pub masks : AreMasks m
  pub others : (n : ℕ) → may_be_lost n ≡ false → is_clock n ≡ false → m.special n ≡ all_bits
  pub ccount : m.special number.ccount ≡ 0
  pub ccompare0 : m.special (number.ccompare 0) ≡ 0
  pub ccompare1 : m.special (number.ccompare 1) ≡ 0
  pub ccompare2 : m.special (number.ccompare 2) ≡ 0

-- after a turn, since its tick sets nothing
abbrev pub moment_known : Option Insn → Option RegWrite → ℕ → ℕ → Knowledge → State → Knowledge
moment_known i write base reply m s =
    let k = known_past i write base reply m s in
    record k { special = with_mask number.interrupt all_bits k.special }

-- A turn of this kind puts the program counter into EPC1.
abbrev pub enters : StepKind → Ps → Bool
enters (kind.Window vector) ps = true
enters (kind.Exc cause) ps = not ps.excm
enters (kind.Interrupt level) ps = level == 1 && not ps.excm
enters _ ps = false

-- each bit of EPC1 is known where a turn did so
abbrev pub entered_known : Bool → Knowledge → Knowledge
entered_known b k =
    if b then record k { special = with_mask (number.epc 1) all_bits k.special } else k

abbrev pub known_then : (ℕ → ℕ) → ℕ → Knowledge → State → StepRecord × State → Knowledge
known_then code reply m s x =
    entered_known (enters x.0.kind s.control.ps)
    (moment_known (executed code s x.0) x.0.write x.1.base reply m s)

-- ---- what a turn uses

-- WSR or XSR of a clock
abbrev pub writes_clock : Insn → Bool
writes_clock (insn.System (system.Special SpecialName.Wsr t n)) = is_clock n
writes_clock (insn.System (system.Special SpecialName.Xsr t n)) = is_clock n
writes_clock _ = false

abbrev pub executes_clock : Option Insn → Bool
executes_clock None = false
executes_clock (Some i) = writes_clock i

-- The next turn uses known bits alone, where the reply has this mask. What is written to a clock
-- decides nothing.
abbrev pub moment_used : (ℕ → ℕ) → ℕ → Knowledge → State → Bool
moment_used code reply m s =
    let p = planned_turn code s in
    found_used p.access reply
    && (executes_clock (step_insn p.kind (fetch_at code s.control.pc))
    || turn_used code p.kind p.access reply m s)

-- ---- one turn

-- the state after a turn from s, whose tick sets nothing
abbrev pub left_by : (ℕ → ℕ) → State → StepRecord × State → State
left_by code s x = with_timers (special_of s.control number.interrupt) (arms code s) x.1

-- The turns x of s and y of t agree, arm the same timers and leave states that agree in what is
-- known then.
pub record MomentsAgree (code : ℕ → ℕ) (reply : ℕ) (m : Knowledge) (s t : State)
    (x y : StepRecord × State) : Type 0 where
  pub turns : TurnsAgree code reply m s x y
  pub arms : arms code s ≡ arms code t
  pub known : IsMomentKnown (known_then code reply m s x)
  pub after : StatesAgree (known_then code reply m s x) (left_by code s x) (left_by code t y)

-- with any two numbers in CCOUNT
abbrev pub MomentTurnsAgree : Type 0
MomentTurnsAgree =
    (code : ℕ → ℕ) (m : Knowledge) (p q : State) (a b reply v w : ℕ)
    → AreBytes code → IsMomentKnown m → IsShaped p → IsShaped q → StatesAgree m p q
    → IsWord a → IsWord b → IsWord reply → IsWord v → IsWord w → AgreeIn reply v w
    → (let s = with_special number.ccount a p in
    let t = with_special number.ccount b q in
    FitsAccess (planned_turn code s).access reply
    → moment_used code reply m s ≡ true
    → MomentsAgree code reply m s t (turn code s v) (turn code t w))
