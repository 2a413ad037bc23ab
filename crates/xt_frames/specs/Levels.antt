-- Carries a proof; nothing that a reader must believe.
-- A core whose control state is another's, but for EPC1: a window exception of a processor with
-- windows writes EPC1, and the machine with unbounded frames does not see it.
use Rattle.std.specs.Prelude.{◌≡◌, ℕ, Option, List, slice_set}
use Rattle.xt_special.specs.Numbers as number
use Rattle.xt_special.specs.Control.{Control, special_of}
use Rattle.xt_frames.specs.Frames.{FrameState}
use Rattle.xt_frames.specs.Walked.{Walked}

-- the control state c with this value of EPC1
abbrev pub with_epc1 : ℕ → Control → Control
with_epc1 value c = record c { special = slice_set c.special (number.epc 1) value }

-- the frame state with these registers, and with this control state but for EPC1
abbrev pub levelled : FrameState → List (Option ℕ) → Control → FrameState
levelled f seen c = record f {
  seen = seen;
  control = with_epc1 (special_of f.control (number.epc 1)) c;
}

-- the record of this number comes next, and the control state is c but for EPC1
pub record IsLevel (w : Walked) (index : ℕ) (c : Control) : Type 0 where
  pub next : w.next ≡ index
  pub control : w.state.control ≡ with_epc1 (special_of w.state.control (number.epc 1)) c
