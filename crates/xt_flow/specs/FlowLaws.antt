-- States laws that are proved; nothing that a reader must believe.
--
-- Note: addresses wrap at 2^32, and a law says that each entry into an exception, an interrupt or a
-- window exception goes to one of the thirteen vectors.
use Rattle.std.specs.Prelude.{◌≡◌, ℕ, ◌+◌, ◌<◌, ◌≤◌, Option, List, map, Contains}
use Rattle.xt_special.specs.Control.{Control, special_of}
use Rattle.xt_special.specs.Exceptions.{after_exception}
use Rattle.xt_special.specs.Interrupts.{after_high_level}
use Rattle.xt_special.specs.Numbers as number
use Rattle.xt_special.specs.WindowExceptions.{after_window_exception}
use Rattle.xt_image.specs.declared.image.Image.{Image}
use Rattle.xt_flow.specs.Printing.{IsFlowText}
use Rattle.xt_flow.specs.Starts.{vector_offsets}

-- an image, VECBASE, the second core's entry and the roots have one text
abbrev pub HasOneText : Image → ℕ → ℕ → List ℕ → Type 0
HasOneText image vecbase entry1 roots =
    (s t : List ℕ) → IsFlowText image vecbase entry1 roots s
    → IsFlowText image vecbase entry1 roots t → s ≡ t

-- the program counter stands at one of the thirteen vectors of a state
abbrev pub StandsAtVector : Control → Control → Type 0
StandsAtVector c after =
    Contains (map (λ offset. special_of c number.vecbase + offset) vector_offsets) after.pc

-- each exception, each interrupt of level 2 to 5 and each window exception goes to one of them
pub record EntersVectors (c : Control) : Type 0 where
  pub exceptions : (cause : ℕ) (address : Option ℕ)
      → StandsAtVector c (after_exception cause address c)
  pub interrupts : (level : ℕ) → 2 ≤ level → level ≤ 5 → StandsAtVector c (after_high_level level c)
  pub windows : (base vector : ℕ) → vector < 6
      → StandsAtVector c (after_window_exception base vector c)
