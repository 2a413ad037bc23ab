-- The state of the machine of uses ('profile'): the machine with unbounded frames, and beside each
-- register that may hold what is not known a mask of its known bits. The frame state has the
-- values, with 0 in each bit that is not known.
use Rattle.std.specs.Prelude.{ℕ, ◌+◌, Bool, ◌&&◌, ◌||◌, if◌then◌else◌, Option, Some, None, List}
use Rattle.std.specs.Prelude.{[], is_some, nat_le, nat_lt, replicate, slice_index_or}
use Rattle.xt_isa.specs.declared.Insn.{Insn}
use Rattle.xt_special.specs.Control.{special_of}
use Rattle.xt_rows.specs.Operands.{reads, special_reads}
use Rattle.xt_frames.specs.Frames.{FrameState, value_or_zero}
use Rattle.xt_frames.specs.Marks.{holds_marks}
use Rattle.xt_frames.specs.SaveAreas.{Range}
use Rattle.xt_uses.specs.Disciplines.{Discipline, is_strict}
use Rattle.xt_uses.specs.Words.{Word, all_bits, whole_word}
use Rattle.xt_uses.specs.Used.{counted_bits}

pub record ValidityBits : Type 0 where
  -- by which discipline: it never changes
  pub discipline : Discipline
  -- of the 16 visible registers
  pub seen : List ℕ
  -- of the registers that are kept for the frames that have called, the newest first
  pub kept : List (List ℕ)
  -- of EXCSAVE1 to EXCSAVE7 and MISC0 to MISC3, by the number of the special register
  pub special : List ℕ
  pub threadptr : ℕ
  -- of the 16 visible registers of a nested interrupt, where there is one
  pub inner : List ℕ

pub record UseState : Type 0 where
  pub frame : FrameState
  pub masks : ValidityBits

-- all is known as a core opens
abbrev pub whole_masks : Discipline → ValidityBits
whole_masks d = record {
  discipline = d;
  seen = replicate 16 all_bits;
  kept = [];
  special = replicate 256 all_bits;
  threadptr = all_bits;
  inner = replicate 16 all_bits;
}

abbrev pub opening_use : Discipline → FrameState → UseState
opening_use d f = record { frame = f; masks = whole_masks d }

-- ---- the bytes that the strict discipline forgets

abbrev pub stack_pointer : UseState → ℕ
stack_pointer s = value_or_zero s.frame.seen 1

abbrev pub is_strict_in : UseState → Bool
is_strict_in s = is_strict s.masks.discipline

-- as a core opens: those of its stack below its stack pointer
abbrev pub opens_unknown : Range → UseState → ℕ → Bool
opens_unknown r s a = is_strict_in s && (nat_le r.lo a && nat_lt a (stack_pointer s))

-- by opening cores
abbrev pub one_opens_unknown : Range → Range → UseState → UseState → ℕ → Bool
one_opens_unknown r0 r1 s0 s1 a = opens_unknown r0 s0 a || opens_unknown r1 s1 a

-- where a step raises the stack pointer, as RETW and MOVSP do: those from 16 below the old one, where
-- the save area begins, up to the new one
abbrev pub rises_over : ℕ → ℕ → ℕ → Bool
rises_over old new a = nat_lt old new && (nat_le old (a + 16) && nat_lt a new)

abbrev pub forgets : UseState → UseState → ℕ → Bool
forgets s u a = is_strict_in s && rises_over (stack_pointer s) (stack_pointer u) a

-- ---- the words that an instruction reads
-- They are those of the state that the next step finds: f has the values of its registers, which
-- in a nested interrupt are the interrupt's.

abbrev pub current_masks : UseState → List ℕ
current_masks s = if is_some s.frame.nested then s.masks.inner else s.masks.seen

abbrev pub visible_word : UseState → FrameState → Option ℕ → Word
visible_word s f None = whole_word 0
visible_word s f (Some i) =
    record { value = value_or_zero f.seen i; mask = slice_index_or (current_masks s) i 0 }

-- any other special register is a number, of which the bits that count are known
abbrev pub special_mask : ValidityBits → ℕ → ℕ
special_mask m n =
    if holds_marks n then slice_index_or m.special n 0 else counted_bits m.discipline n

abbrev pub special_word : UseState → FrameState → Option ℕ → Word
special_word s f None = whole_word 0
special_word s f (Some n) =
    record { value = special_of f.control n; mask = special_mask s.masks n }

abbrev pub first_word : Insn → UseState → FrameState → Word
first_word i s f = visible_word s f (reads i).0

abbrev pub second_word : Insn → UseState → FrameState → Word
second_word i s f = visible_word s f (reads i).1

abbrev pub special_operand : Insn → UseState → FrameState → Word
special_operand i s f = special_word s f (special_reads i).0
