-- Carries a proof; nothing that a reader must believe.
-- What the walk keeps of a core, and what it finds at the program counter of one.
use Rattle.std.specs.Prelude.{◌≡◌, ℕ, Bool, true, false, ◌==◌, ◌&&◌, ◌||◌, not, Option, Some, None}
use Rattle.std.specs.Prelude.{if◌then◌else◌, nat_lt, slice_index_or}
use Rattle.xt_isa.specs.declared.Insn.{Insn}
use Rattle.xt_isa.specs.Ranges.{in_range}
use Rattle.xt_map.specs.declared.access.Access.{Access}
use Rattle.xt_trace.specs.declared.record.RegWrite.{RegWrite}
use Rattle.xt_trace.specs.declared.record.StepKind.{StepKind}
use Rattle.xt_trace.specs.declared.record.StepKind.TheVariants as kind
use Rattle.xt_map.specs.Fetching.{Fetched, Fetches}
use Rattle.xt_rows.specs.Kinds.{is_return}
use Rattle.xt_rows.specs.Operands.{reads}
use Rattle.xt_rows.specs.RowLaws.{IsShiftAmount}
use Rattle.xt_exec.specs.State.{State}
use Rattle.xt_frames.specs.Marks.{holds_marks}
use Rattle.xt_uses.specs.declared.words.Word.{Word}
use Rattle.xt_uses.specs.declared.discipline.Discipline.TheVariants.{Lenient}
use Rattle.xt_uses.specs.declared.lacking.Lack.{Lack}
use Rattle.xt_uses.specs.Words.{all_bits, is_whole}
use Rattle.xt_uses.specs.Known.{result_mask}
use Rattle.xt_simulation.specs.Knowledge.{Knowledge, first_special, first_word, register_word}
use Rattle.xt_simulation.specs.Knowledge.{second_word}
use Rattle.xt_simulation.specs.TurnUses.{found_used, row_used}
use Rattle.xt_simulation.specs.Learning.{common_mask, doubtful}
use Rattle.xt_secret_walk.specs.declared.masks.CoreMasks.{CoreMasks}
use Rattle.xt_secret_walk.specs.declared.seen.MaskWrite.{MaskWrite}
use Rattle.xt_secret_walk.specs.declared.seen.Seen.{Seen}

-- ---- what is known of a core
-- All special registers but EXCSAVE1 to EXCSAVE7 and MISC0 to MISC3 are known.

abbrev pub special_mask : CoreMasks → ℕ → ℕ
special_mask c n = if holds_marks n then slice_index_or c.special n all_bits else all_bits

abbrev pub knowledge_of : CoreMasks → Knowledge
knowledge_of c = record {
  regs = λ k. slice_index_or c.regs k all_bits;
  special = special_mask c;
  threadptr = c.threadptr;
}

-- ---- the instruction at the program counter, and the words that it reads

abbrev pub doubt_of : Option ℕ → Word → Knowledge → State → Option MaskWrite
doubt_of None x m s = None
doubt_of (Some r) x m s =
    Some (record { reg = r; mask = common_mask (register_word m s (Some r)) x })

abbrev pub seen_in : Insn → Knowledge → State → Seen
seen_in i m s = record {
  insn = i;
  x = first_word i m s;
  y = second_word i m s;
  u = first_special i m s;
  doubt = doubt_of (doubtful i (second_word i m s)) (first_word i m s) m s;
}

abbrev pub seen_of : Fetched → Knowledge → State → Option Seen
seen_of (Fetches i len) m s = Some (seen_in i m s)
seen_of _ m s = None

-- its operands are in their ranges, and an amount to shift by is below 64
pub record IsGood (x : Seen) : Type 0 where
  pub range : in_range x.insn ≡ true
  pub sar : IsShiftAmount x.insn x.u.value

abbrev pub IsGoodSeen : Option Seen → Type 0
IsGoodSeen None = Unit {0}
IsGoodSeen (Some x) = IsGood x

-- ---- what a turn uses of it

abbrev pub insn_uses : StepKind → Seen → Bool
insn_uses (kind.Interrupt level) x = true
insn_uses kind.Wait x = true
insn_uses (kind.Window vector) x = not (is_return x.insn) || is_whole x.x
insn_uses _ x = row_used x.insn x.x x.y

abbrev pub seen_uses : StepKind → Option Seen → Bool
seen_uses kind None = true
seen_uses kind (Some x) = insn_uses kind x

abbrev pub turn_uses : StepKind → Option Access → Option Seen → ℕ → Bool
turn_uses kind access seen reply = seen_uses kind seen && found_used access reply

-- ---- what it lacks

abbrev pub word_lacks : ℕ → Word → Option Lack
word_lacks n w =
    if w.mask == all_bits then None
    else Some (record { number = n; value = w.value; mask = w.mask; mark = None })

abbrev pub words_lack : Option ℕ × Option ℕ → Word → Word → Option Lack × Option Lack
words_lack (None, second) x y = (None, None)
words_lack (Some a, None) x y = (word_lacks a x, None)
words_lack (Some a, Some b) x y =
    if nat_lt a b then (word_lacks a x, word_lacks b y)
    else (if nat_lt b a then (word_lacks b y, word_lacks a x) else (word_lacks a x, None))

abbrev pub seen_lacks : Option Seen → Option Lack × Option Lack
seen_lacks None = (None, None)
seen_lacks (Some x) = words_lack (reads x.insn) x.x x.y

-- ---- what a turn that executes it writes

abbrev pub executed_in : StepKind → Option Seen → Option Seen
executed_in kind.Insn seen = seen
executed_in _ seen = None

abbrev pub result_of : Option RegWrite → ℕ → ℕ → Seen → Option MaskWrite
result_of None reply pointer x = None
result_of (Some w) reply pointer x =
    Some (record {
      reg = w.reg;
      mask = result_mask Lenient x.insn x.x x.y x.u pointer reply;
    })

-- the register that gets a mask
abbrev pub masked_write : Option MaskWrite → Option RegWrite → ℕ → ℕ → Seen → Option MaskWrite
masked_write (Some d) write reply pointer x = Some d
masked_write None write reply pointer x = result_of write reply pointer x

abbrev pub leaves_hidden : Option MaskWrite → Bool
leaves_hidden None = false
leaves_hidden (Some w) = not (w.mask == all_bits)

abbrev pub stored_of : Option Seen → ℕ
stored_of None = all_bits
stored_of (Some x) = x.y.mask
