-- States laws of the rows of all instructions. Public contracts also cite its ranges: those of
-- words, numbers of registers, shift amounts and outcomes.
use Rattle.std.specs.Prelude.{◌≡◌, ◌==◌, ℕ, ◌<◌, ◌^◌, Bool, true, false, Option, Some, None}
use Rattle.xt_isa.specs.declared.Insn.{Insn}
use Rattle.xt_isa.specs.declared.Insn.TheVariants as insn
use Rattle.xt_isa.specs.declared.system.System.TheVariants as system
use Rattle.xt_isa.specs.declared.system.SpecialName.TheVariants as SpecialName
use Rattle.xt_isa.specs.Ranges.{in_range, signed_within}
use Rattle.xt_map.specs.Regions.{is_mapped}
use Rattle.xt_special.specs.declared.ps.Ps.{Ps}
use Rattle.xt_special.specs.Numbers as number
use Rattle.xt_special.specs.Control.{Control, special_of}
use Rattle.xt_special.specs.Shape.{IsPs, AreProperSets}
use Rattle.xt_map.specs.Code.{AreBytes}
use Rattle.xt_trace.specs.declared.record.RegWrite.{RegWrite}
use Rattle.xt_rows.specs.declared.outcome.ReplyTarget.{ReplyTarget}
use Rattle.xt_rows.specs.declared.outcome.Flow.{Flow}
use Rattle.xt_rows.specs.declared.outcome.Flow.TheVariants.{Falls, Goes}
use Rattle.xt_rows.specs.declared.outcome.Effect.{Effect}
use Rattle.xt_rows.specs.declared.outcome.WindowStep.{WindowStep}
use Rattle.xt_rows.specs.declared.outcome.WindowStep.TheVariants.{Enters, Returns, EndsOverflow}
use Rattle.xt_rows.specs.declared.outcome.WindowStep.TheVariants.{EndsUnderflow, Rotates}
use Rattle.xt_rows.specs.declared.outcome.WindowStep.TheVariants.{MovesStack, Reads, Sets}
use Rattle.xt_rows.specs.declared.outcome.WindowStep.TheVariants.{Exchanges}
use Rattle.xt_rows.specs.declared.outcome.Outcome.{Outcome}
use Rattle.xt_rows.specs.declared.outcome.Outcome.TheVariants.{Does, Raises, Asks, Stops, Windowed}
use Rattle.xt_rows.specs.Operands.{reads, special_reads, highest_register}
use Rattle.xt_rows.specs.Effects.{no_change}
use Rattle.xt_rows.specs.Outcomes.{outcome, outcome_at}

-- ---- a row looks at nothing but the registers that it reads, PC, PS and THREADPTR

abbrev pub AgreeAt : (ℕ → ℕ) → (ℕ → ℕ) → Option ℕ → Type 0
AgreeAt f g None = Unit {0}
AgreeAt f g (Some number) = f number ≡ g number

abbrev pub AgreeOn : (ℕ → ℕ) → (ℕ → ℕ) → Option ℕ × Option ℕ → Type 0
AgreeOn f g numbers = AgreeAt f g numbers.0 × AgreeAt f g numbers.1

abbrev pub ReadsOnlyItsRegisters : Type 0
ReadsOnlyItsRegisters =
    (code : ℕ → ℕ) (i : Insn) (f g : ℕ → ℕ) (c d : Control)
    → AgreeOn f g (reads i) → AgreeOn (special_of c) (special_of d) (special_reads i)
    → c.pc ≡ d.pc → c.ps ≡ d.ps → c.threadptr ≡ d.threadptr
    → outcome_at code i f c ≡ outcome_at code i g d

-- ---- the registers that an instruction reads and names exist

-- a visible register, if it is one, exists
abbrev pub IsRegister : Option ℕ → Type 0
IsRegister None = Unit {0}
IsRegister (Some number) = number < 16

abbrev pub RegistersExist : Type 0
RegistersExist =
    (i : Insn) → in_range i ≡ true
    → IsRegister (reads i).0 × IsRegister (reads i).1 × (highest_register i < 16)

-- ---- what comes of a row: accesses that the bus serves, registers that there are, and words

abbrev pub IsWord : ℕ → Type 0
IsWord n = n < 2 ^ 32

-- the register exists, and W holds of the value
abbrev pub IsProperWrite : (ℕ → Type 0) → Option RegWrite → Type 0
IsProperWrite W None = Unit {0}
IsProperWrite W (Some w) = (w.reg < 16) × W w.value

abbrev pub IsProperFlow : Flow → Type 0
IsProperFlow Falls = Unit {0}
IsProperFlow (Goes target) = IsWord target

pub record IsProperEffect (W : ℕ → Type 0) (e : Effect) : Type 0 where
  pub write : IsProperWrite W e.write
  pub sets : AreProperSets e.sets
  pub ps : IsPs e.ps
  pub threadptr : IsWord e.threadptr
  pub flow : IsProperFlow e.flow

abbrev pub IsProperAwaited : Option ReplyTarget → Type 0
IsProperAwaited None = Unit {0}
IsProperAwaited (Some a) = a.number < 16

abbrev pub IsProperAddress : Option ℕ → Type 0
IsProperAddress None = Unit {0}
IsProperAddress (Some a) = IsWord a

abbrev pub IsProperStep : WindowStep → Type 0
IsProperStep (Enters number value) = (number < 16) × IsWord value
IsProperStep (Returns a0) = IsWord a0
IsProperStep (EndsOverflow epc1) = IsWord epc1
IsProperStep (EndsUnderflow epc1) = IsWord epc1
IsProperStep (Rotates n) = signed_within 8 n ≡ true
IsProperStep (MovesStack number value) = (number < 16) × IsWord value
IsProperStep (Reads register number) = number < 16
IsProperStep (Sets register value) = IsWord value
IsProperStep (Exchanges register number value) = (number < 16) × IsWord value

-- W is what holds of a value that is written to a visible register
abbrev pub IsProper : (ℕ → Type 0) → Outcome → Type 0
IsProper W (Does e) = IsProperEffect W e
IsProper W (Raises cause address) = (cause < 64) × IsProperAddress address
IsProper W (Asks access awaited e) =
    (is_mapped access ≡ true) × IsProperAwaited awaited × IsProperEffect W e
IsProper W Stops = Unit {0}
IsProper W (Windowed step) = IsProperStep step

-- what is read of a special register, if one is read, and else 0: SAR has six bits
abbrev pub IsHeld : Option ℕ → ℕ → Type 0
IsHeld None u = u ≡ 0
IsHeld (Some number) u = number ≡ 3 → u < 2 ^ 6

-- an instruction that shifts by SAR has SAR's value, which is below 64
abbrev pub IsShiftAmount : Insn → ℕ → Type 0
IsShiftAmount (insn.Three i) u = u < 2 ^ 6
IsShiftAmount (insn.Shift i) u = u < 2 ^ 6
IsShiftAmount i u = Unit {0}

-- what a row is given: an instruction whose operands are in their ranges, and words
pub record IsGiven (i : Insn) (pc x y u v : ℕ) (ps : Ps) (threadptr : ℕ) : Type 0 where
  pub range : in_range i ≡ true
  pub pc_word : IsWord pc
  pub x_word : IsWord x
  pub y_word : IsWord y
  pub u_word : IsWord u
  pub v_word : IsWord v
  pub sar : IsShiftAmount i u
  pub fields : IsPs ps
  pub threadptr_word : IsWord threadptr

abbrev pub OutcomesAreProper : Type 0
OutcomesAreProper =
    (code : ℕ → ℕ) (i : Insn) (pc x y u v : ℕ) (ps : Ps) (threadptr : ℕ)
    → AreBytes code → IsGiven i pc x y u v ps threadptr
    → IsProper IsWord (outcome code i pc x y u v ps threadptr)

-- of a value that is a word by its type nothing need be said
abbrev pub IsAny : ℕ → Type 0
IsAny n = Unit {0}

-- ---- an instruction that asks for an access changes nothing else: what is left of
-- its effect is the effect e

abbrev pub AsksWith : Effect → Outcome → Type 0
AsksWith e (Asks access awaited rest) = rest ≡ e
AsksWith e _ = Unit {0}

-- ---- which instructions set INTLEVEL and EXCM, or wait

-- WSR and XSR of PS, RSIL, WAITI and the returns
unfoldable pub sets_mode : Insn → Bool
sets_mode (insn.System (system.Special SpecialName.Wsr t n)) = n == number.ps
sets_mode (insn.System (system.Special SpecialName.Xsr t n)) = n == number.ps
sets_mode (insn.System (system.Level name t level)) = true
sets_mode (insn.System (system.ExceptionReturn name)) = true
sets_mode (insn.System (system.Rfi level)) = true
sets_mode _ = false

abbrev pub KeepsMode : Effect → Outcome → Type 0
KeepsMode e (Does rest) =
    (rest.ps.intlevel ≡ e.ps.intlevel) × (rest.ps.excm ≡ e.ps.excm) × (rest.waits ≡ e.waits)
KeepsMode e _ = Unit {0}

-- no row of another does
abbrev pub ModesAreKept : Type 0
ModesAreKept =
    (code : ℕ → ℕ) (i : Insn) (pc x y u v : ℕ) (ps : Ps) (threadptr : ℕ) → sets_mode i ≡ false
    → KeepsMode (no_change ps threadptr) (outcome code i pc x y u v ps threadptr)
