-- Carries a proof; nothing that a reader must believe.
-- What is tested of a turn that is to be made in step.
use Rattle.std.specs.Prelude.{◌≡◌, ◌≢◌, ℕ, true, false, Option, Some, None, List}
use Rattle.std.specs.Prelude.{length, slice_index_or}
use Rattle.xt_isa.specs.declared.Insn.{Insn}
use Rattle.xt_isa.specs.Ranges.{in_range}
use Rattle.xt_special.specs.Numbers as number
use Rattle.xt_special.specs.Control.{special_of}
use Rattle.xt_special.specs.Interrupts.{pending_of}
use Rattle.xt_window.specs.Ring.{visible}
use Rattle.xt_map.specs.Fetching.{Fetches, fetch_at}
use Rattle.xt_rows.specs.Operands.{reads, special_reads}
use Rattle.xt_exec.specs.State.{State}
use Rattle.xt_frames.specs.Frames.{FrameState, all_set}
use Rattle.xt_frames.specs.Breaches.{is_in_vectors}
use Rattle.xt_frames.specs.Quick.{IsCommon}

-- the register, if there is one, has a value in the frames, and that is the processor's
abbrev pub AgreesAt : List (Option ℕ) → State → Option ℕ → Type 0
AgreesAt seen s None = Unit {0}
AgreesAt seen s (Some k) = slice_index_or seen k None ≡ Some (visible s.regs s.base k)

-- the special register, if there is one, is another than EPC1
abbrev pub IsNoEpc1 : Option ℕ → Type 0
IsNoEpc1 None = Unit {0}
IsNoEpc1 (Some k) = k ≢ number.epc 1

-- the next turn executes an instruction that no breach names, outside exception mode and the
-- vectors, and reads nothing that the frames do not have
pub record IsReady (code : ℕ → ℕ) (vecbase : ℕ) (seen : List (Option ℕ)) (s : State) : Type 0 where
  pub i : Insn
  pub len : ℕ
  pub ok : in_range i ≡ true
  pub at : fetch_at code s.control.pc ≡ Fetches i len
  pub quiet : pending_of s.control ≡ 0
  pub goes : s.control.waits ≡ false
  pub common : IsCommon i
  pub excm : s.control.ps.excm ≡ false
  pub vectors : special_of s.control number.vecbase ≡ vecbase
  pub outside : is_in_vectors vecbase s.control.pc ≡ false
  pub first : AgreesAt seen s (reads i).0
  pub second : AgreesAt seen s (reads i).1
  pub special : IsNoEpc1 (special_reads i).0
  pub other : IsNoEpc1 (special_reads i).1

-- a frame state that no nested interrupt has touched
pub record IsPlain (f : FrameState) : Type 0 where
  pub nested : f.nested ≡ None
  pub numbers : f.unset ≡ all_set
  pub count : length f.control.special ≡ 256
