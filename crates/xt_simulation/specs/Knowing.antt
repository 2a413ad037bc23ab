-- Carries a proof; nothing that a reader must believe.
-- What the machine of uses knows of a frame state that has the processor's numbers. The processor
-- plays no part here: both are states of the machine with unbounded frames.
use Rattle.std.specs.Prelude.{◌≡◌, ℕ, ◌*◌, ◌<◌, ◌^◌, Bool, true, false, ◌||◌, Option, Some}
use Rattle.std.specs.Prelude.{None, List, [], ◌∷◌, length, slice_index_or}
use Rattle.xt_special.specs.Control.{Control, special_of}
use Rattle.xt_special.specs.Access.{is_eps}
use Rattle.xt_frames.specs.declared.holes.Nested.{Nested}
use Rattle.xt_frames.specs.Frames.{Frame, FrameState, value_or_zero}
use Rattle.xt_frames.specs.Marks.{holds_marks}
use Rattle.xt_frames.specs.SaveAreas.{sp_of}
use Rattle.xt_simulation.specs.Relation.{Even}
use Rattle.xt_uses.specs.declared.discipline.Discipline.{Discipline}
use Rattle.xt_uses.specs.Words.{masked}
use Rattle.xt_uses.specs.Used.{counted_bits}
use Rattle.xt_frames.specs.FrameStep.{FrameTurn}
use Rattle.xt_uses.specs.UseState.{UseState, current_masks}
use Rattle.xt_uses.specs.UseStep.{UseTurn}
use Rattle.xt_uses.specs.UseLaws.{AccessFits, AgreeIn, IsSent, WriteFits}

-- ---- registers

-- Some of n registers have a number. The words of the machine of uses fit these numbers, and of a
-- register without a number nothing is known.
pub record SeenFit (n : ℕ) (masks : List ℕ) (xs ys : List (Option ℕ)) : Type 0 where
  pub size : length xs ≡ n
  pub wide : length ys ≡ n
  pub spread : length masks ≡ n
  pub fits : (i : ℕ) → masked (slice_index_or masks i 0) (value_or_zero xs i) ≡ value_or_zero ys i
  pub lacks : (i : ℕ) → slice_index_or xs i None ≡ None → slice_index_or masks i 0 ≡ 0

-- and the registers that are kept for frames; of a stack pointer all is known
abbrev pub FramesFit : List (List ℕ) → List Frame → List Frame → Type 0
FramesFit [] [] [] = Unit {0}
FramesFit (m ∷ ms) (f ∷ fs) (g ∷ gs) =
    (f.by ≡ g.by)
    × ((sp_of f ≡ sp_of g) × (SeenFit (4 * f.by) m f.kept g.kept × FramesFit ms fs gs))
FramesFit _ _ _ = ⊥

-- ---- special registers

abbrev pub with_pointer : ℕ → Control → Control
with_pointer n d = record d { threadptr = n }

abbrev pub with_owb : ℕ → Control → Control
with_owb n d = record d { ps = record d.ps { owb = n } }

-- of these not each bit may be known
abbrev pub is_partial : ℕ → Bool
is_partial n = holds_marks n || is_eps n

-- Equal but for THREADPTR, EXCSAVE and MISC, of which the known bits are equal, and EPS2 to EPS7, of
-- which those are that count.
pub record ControlFit
    (by : Discipline) (special : List ℕ) (known_bits : ℕ) (c d : Control)
    : Type 0 where
  pub even : Even is_partial c (with_pointer c.threadptr d)
  pub pointer : masked known_bits c.threadptr ≡ d.threadptr
  pub spread : length special ≡ 256
  pub words : (n : ℕ) → holds_marks n ≡ true → special_of c n < 2 ^ 32
  pub fits : (n : ℕ) → holds_marks n ≡ true
      → masked (slice_index_or special n 0) (special_of c n) ≡ special_of d n
  pub saved : (n : ℕ) → is_eps n ≡ true
      → AgreeIn (counted_bits by n) (special_of c n) (special_of d n)

-- as a step leaves them: PS.OWB is told at the next one
abbrev pub ControlLeft : Discipline → List ℕ → ℕ → Control → Control → Type 0
ControlLeft by special known_bits c d =
    ControlFit by special known_bits c (with_owb c.ps.owb d)

-- which special registers have no number; nothing is known of EXCSAVE or MISC that has none
pub record UnsetFit (special : List ℕ) (xs ys : List Bool) : Type 0 where
  pub size : length xs ≡ 256
  pub wide : length ys ≡ 256
  pub equal : (n : ℕ) → holds_marks n ≡ false
      → slice_index_or xs n false ≡ slice_index_or ys n false
  pub lacks : (n : ℕ) → holds_marks n ≡ true → slice_index_or xs n false ≡ true
      → slice_index_or special n 0 ≡ 0

-- ---- states

-- the state that the next step finds, in a nested interrupt that inside
pub record NowFit (s : UseState) (g h : FrameState) : Type 0 where
  pub seen : SeenFit 16 (current_masks s) g.seen h.seen
  pub frames : FramesFit s.masks.kept g.frames h.frames
  pub control :
      ControlFit s.masks.discipline s.masks.special s.masks.threadptr g.control h.control
  pub unset : UnsetFit s.masks.special g.unset h.unset

-- what stands in a nested interrupt: its marks are equal
pub record InnerFit (inner : List ℕ) (x y : Nested) : Type 0 where
  pub seen : SeenFit 16 inner x.seen y.seen
  pub pc : x.pc ≡ y.pc
  pub ps : x.ps ≡ record y.ps { owb = x.ps.owb }
  pub marks : x.marks ≡ y.marks
  pub spread : length x.marks ≡ 16
  pub saved : x.saved ≡ y.saved

abbrev pub NestedFit : List ℕ → Option Nested → Option Nested → Type 0
NestedFit inner None None = Unit {0}
NestedFit inner (Some x) (Some y) = InnerFit inner x y
NestedFit inner _ _ = ⊥

-- the machine of uses in the state s knows the frame state f
pub record Knows (f : FrameState) (s : UseState) : Type 0 where
  pub seen : SeenFit 16 s.masks.seen f.seen s.frame.seen
  pub sp : value_or_zero f.seen 1 ≡ value_or_zero s.frame.seen 1
  pub frames : FramesFit s.masks.kept f.frames s.frame.frames
  pub control :
      ControlLeft s.masks.discipline s.masks.special s.masks.threadptr f.control s.frame.control
  pub unset : UnsetFit s.masks.special f.unset s.frame.unset
  pub nested : NestedFit s.masks.inner f.nested s.frame.nested

-- a step of the machine of uses, beside the step of the frame state
pub record Follows (t : UseTurn) (u : FrameTurn) : Type 0 where
  pub kind : u.kind ≡ t.turn.kind
  pub write : WriteFits t.mask u.write t.turn.write
  pub access : AccessFits t.stored u.access t.turn.access
  pub sent : IsSent t.stored t.turn.access
  pub knows : Knows u.after t.after
