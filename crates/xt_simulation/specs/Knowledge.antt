-- What is known of a core, and of memory ('profile'): a bit of a mask is 1 where that bit does not
-- depend on what is secret.
--
-- Profile: the program counter, PS, the window and whether a core waits are always known. So are
-- all special registers but EXCSAVE1 to EXCSAVE7 and MISC0 to MISC3, if they are as a run begins: a
-- WSR or XSR of any other uses what it writes. Each special register has a mask nonetheless, so
-- that time can be what is not known.
-- Note: a register has its mask by its place in the ring, so a window that moves changes no mask.
use Rattle.std.specs.Prelude.{◌≡◌, ℕ, Bool, true, ◌==◌, ◌||◌, Option, Some, None, slice_index}
use Rattle.xt_isa.specs.declared.Insn.{Insn}
use Rattle.xt_special.specs.Numbers as number
use Rattle.xt_special.specs.Access.{is_window_register}
use Rattle.xt_special.specs.Control.{special_of}
use Rattle.xt_window.specs.Ring.{place, visible}
use Rattle.xt_rows.specs.Operands.{reads, special_reads}
use Rattle.xt_rows.specs.RowLaws.{IsWord}
use Rattle.xt_exec.specs.State.{State}
use Rattle.xt_uses.specs.declared.words.Word.{Word}
use Rattle.xt_uses.specs.Words.{all_bits, masked, whole_word}
use Rattle.xt_uses.specs.UseLaws.{AgreeIn}

pub record Knowledge : Type 0 where
  -- of the 64 registers of the ring, by their places
  pub regs : ℕ → ℕ
  -- of the special registers, by their numbers
  pub special : ℕ → ℕ
  pub threadptr : ℕ

-- every bit
abbrev pub all_known : Knowledge
all_known =
    record { regs = λ place. all_bits; special = λ number. all_bits; threadptr = all_bits }

-- PS, WINDOWBASE and WINDOWSTART are kept apart from the list of special registers
abbrev pub is_apart : ℕ → Bool
is_apart n = n == number.ps || is_window_register n

-- masks are words, and of a register that is kept apart each bit is known
pub record AreMasks (m : Knowledge) : Type 0 where
  pub regs : (place : ℕ) → IsWord (m.regs place)
  pub special : (number : ℕ) → IsWord (m.special number)
  pub threadptr : IsWord m.threadptr
  pub apart : (number : ℕ) → is_apart number ≡ true → m.special number ≡ all_bits

-- ---- two states agree in what is known

pub record StatesAgree (m : Knowledge) (s t : State) : Type 0 where
  pub pc : s.control.pc ≡ t.control.pc
  pub base : s.base ≡ t.base
  pub start : s.start ≡ t.start
  pub ps : s.control.ps ≡ t.control.ps
  pub waits : s.control.waits ≡ t.control.waits
  pub regs : (k : ℕ) → AgreeIn (m.regs k) (slice_index s.regs k) (slice_index t.regs k)
  pub special : (n : ℕ) → AgreeIn (m.special n) (special_of s.control n) (special_of t.control n)
  pub threadptr : AgreeIn m.threadptr s.control.threadptr t.control.threadptr

-- ---- the known words that an instruction reads

abbrev pub known_word : ℕ → ℕ → Word
known_word mask n = record { value = masked mask n; mask = mask }

abbrev pub register_word : Knowledge → State → Option ℕ → Word
register_word m s None = whole_word 0
register_word m s (Some i) = known_word (m.regs (place s.base i)) (visible s.regs s.base i)

abbrev pub special_word : Knowledge → State → Option ℕ → Word
special_word m s None = whole_word 0
special_word m s (Some n) = known_word (m.special n) (special_of s.control n)

abbrev pub first_word : Insn → Knowledge → State → Word
first_word i m s = register_word m s (reads i).0

abbrev pub second_word : Insn → Knowledge → State → Word
second_word i m s = register_word m s (reads i).1

abbrev pub first_special : Insn → Knowledge → State → Word
first_special i m s = special_word m s (special_reads i).0

abbrev pub second_special : Insn → Knowledge → State → Word
second_special i m s = special_word m s (special_reads i).1
