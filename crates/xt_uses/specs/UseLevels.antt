-- Carries a proof; nothing that a reader must believe.
-- A core of the machine of uses whose control state is another's, but for EPC1.
use Rattle.std.specs.Prelude.{◌≡◌, ℕ, Option, List}
use Rattle.xt_special.specs.Numbers as number
use Rattle.xt_special.specs.Control.{Control, special_of}
use Rattle.xt_frames.specs.Levels.{levelled, with_epc1}
use Rattle.xt_uses.specs.UseState.{UseState}
use Rattle.xt_uses.specs.UseParts.{UseWalked}

-- the state with these registers and the masks of these, and with this control state but for EPC1
abbrev pub use_levelled : UseState → List (Option ℕ) → List ℕ → Control → UseState
use_levelled s seen masks c = record {
  frame = levelled s.frame seen c;
  masks = record s.masks { seen = masks };
}

-- the record of this number comes next, and the control state is c but for EPC1
pub record IsUseLevel (w : UseWalked) (index : ℕ) (c : Control) : Type 0 where
  pub next : w.next ≡ index
  pub control :
      w.state.frame.control ≡ with_epc1 (special_of w.state.frame.control (number.epc 1)) c
