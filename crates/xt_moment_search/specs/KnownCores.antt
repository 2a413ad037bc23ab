-- Carries a proof; nothing that a reader must believe.
-- What a search knows of a core and of memory, and what a turn finds.
use Rattle.std.specs.Prelude.{◌≡◌, ℕ, ◌-◌, Bool, true, false, ◌==◌, ◌&&◌, not, Option, Some, None}
use Rattle.std.specs.Prelude.{if◌then◌else◌, List, slice_index, slice_index_or}
use Rattle.xt_isa.specs.declared.Insn.{Insn}
use Rattle.xt_isa.specs.declared.Insn.TheVariants as insn
use Rattle.xt_isa.specs.declared.system.System.TheVariants as system
use Rattle.xt_isa.specs.declared.system.SpecialName.TheVariants as SpecialName
use Rattle.xt_isa.specs.declared.system.ExceptionReturnName.TheVariants as ExceptionReturnName
use Rattle.xt_map.specs.declared.contents.MemoryContents.{MemoryContents}
use Rattle.xt_map.specs.declared.access.Access.{Access}
use Rattle.xt_map.specs.Memory.{byte_at}
use Rattle.xt_map.specs.Regions.{is_memory, region_of}
use Rattle.xt_special.specs.Numbers as number
use Rattle.xt_trace.specs.declared.record.RegWrite.{RegWrite}
use Rattle.xt_trace.specs.declared.record.StepKind.{StepKind}
use Rattle.xt_search.specs.Changed.{ChangesState, contents_of}
use Rattle.xt_exec.specs.State.{State}
use Rattle.xt_uses.specs.UseStep.{unknown_bits}
use Rattle.xt_uses.specs.Words.{all_bits, complement}
use Rattle.xt_uses.specs.UseLaws.{AgreeIn}
use Rattle.xt_use_walk.specs.MaskedBytes.{is_byte}
use Rattle.xt_simulation.specs.Knowledge.{Knowledge}
use Rattle.xt_simulation.specs.Learning.{regs_written}
use Rattle.xt_secret_walk.specs.declared.masks.CoreMasks.{CoreMasks}
use Rattle.xt_secret_walk.specs.declared.seen.Seen.{Seen}
use Rattle.xt_secret_walk.specs.SeenWords.{executed_in, knowledge_of, seen_in}
use Rattle.xt_moments.specs.Moments.{MomentCore, armed_by}
use Rattle.xt_moments.specs.MomentLaws.{is_clock, may_be_lost, writes_clock}
use Rattle.xt_moment_search.specs.Sides.{KnownCore}

-- ---- a core

-- of a special register that is no clock: EPC1, EXCSAVE1 to EXCSAVE7 and MISC0 to MISC3 have a mask
abbrev pub kept_mask : CoreMasks → ℕ → ℕ
kept_mask c n = if may_be_lost n then slice_index_or c.special n all_bits else all_bits

-- nothing is known of the clocks
abbrev pub moment_known_of : CoreMasks → Knowledge
moment_known_of c =
    record (knowledge_of c) { special = λ n. if is_clock n then 0 else kept_mask c n }

abbrev pub core_of : KnownCore → MomentCore
core_of k = record { state = k.state; armed = k.armed; stopped = k.stopped }

-- the registers agree in these masks, and all else is equal
pub record IsCut (masks : List ℕ) (s t : State) : Type 0 where
  pub regs : (k : ℕ) → AgreeIn (slice_index_or masks k all_bits) (slice_index s.regs k) (slice_index t.regs k)
  pub base : s.base ≡ t.base
  pub start : s.start ≡ t.start
  pub control : s.control ≡ t.control

-- ---- memory

-- of a byte, where `hidden` has the bits that are not known, as changes of a memory of zeros
abbrev pub known_byte : MemoryContents → ChangesState → ℕ → ℕ
known_byte cleared hidden a =
    if is_byte a then 255 - byte_at (contents_of cleared hidden) a else 255

-- what is known of what an access reads
abbrev pub read_mask : (ℕ → ℕ) → Access → ℕ
read_mask bytes a =
    if is_memory (region_of a.addr) then complement (unknown_bits bytes a.addr a.size) else all_bits

-- ---- what a turn finds

-- RSR or XSR of a clock
abbrev pub reads_clock : Insn → Bool
reads_clock (insn.System (system.Special SpecialName.Rsr t n)) = is_clock n
reads_clock (insn.System (system.Special SpecialName.Xsr t n)) = is_clock n
reads_clock _ = false

-- RFE, RFWO, RFWU, and RSR or XSR of EPC1
abbrev pub reads_epc1 : Insn → Bool
reads_epc1 (insn.System (system.Special SpecialName.Rsr t n)) = n == number.epc 1
reads_epc1 (insn.System (system.Special SpecialName.Xsr t n)) = n == number.epc 1
reads_epc1 (insn.System (system.ExceptionReturn ExceptionReturnName.Rfe)) = true
reads_epc1 (insn.System (system.ExceptionReturn ExceptionReturnName.Rfwo)) = true
reads_epc1 (insn.System (system.ExceptionReturn ExceptionReturnName.Rfwu)) = true
reads_epc1 _ = false

-- of which not each bit is known
abbrev pub misses_epc1 : CoreMasks → Insn → Bool
misses_epc1 c i =
    reads_epc1 i && not (slice_index_or c.special (number.epc 1) all_bits == all_bits)

abbrev pub reads_lost : CoreMasks → Option Seen → Bool
reads_lost c None = false
reads_lost c (Some x) = misses_epc1 c x.insn

-- what it executes writes a clock
abbrev pub clock_written : Option Seen → Bool
clock_written None = false
clock_written (Some x) = writes_clock x.insn

-- what decides in a turn of this kind: nothing that an instruction that writes a clock reads
abbrev pub deciding : StepKind → Option Seen → Option Seen
deciding kind seen = if clock_written (executed_in kind seen) then None else seen

abbrev pub seen_arms : Option Seen → ℕ
seen_arms None = 0
seen_arms (Some x) = armed_by x.insn

abbrev pub insn_of : Option Seen → Option Insn
insn_of None = None
insn_of (Some x) = Some x.insn

-- it was seen so in this state
abbrev pub IsSeen : CoreMasks → State → Option Seen → Type 0
IsSeen c s None = Unit {0}
IsSeen c s (Some x) = x ≡ seen_in x.insn (knowledge_of c) s

-- the register that is written has no known bit
abbrev pub with_hidden : Option RegWrite → ℕ → Knowledge → Knowledge
with_hidden write base k = record k { regs = regs_written write base 0 k.regs }
