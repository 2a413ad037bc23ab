-- Carries a proof; nothing that a reader must believe.
-- A walk that stands before a step of a run.
use Rattle.std.specs.Prelude.{ℕ, zero, suc, Bool, true, false, Option, Some, None}
use Rattle.xt_frames.specs.declared.kinds.Judged.{Judged}
use Rattle.xt_frames.specs.declared.kinds.Judged.TheVariants.{Whole}
use Rattle.xt_frames.specs.Breaches.{Bounds}
use Rattle.xt_frames.specs.Verdict.{Known}
use Rattle.xt_frames.specs.Walked.{Walked}
use Rattle.xt_discipline.specs.declared.walk.Walk.{Walk}
use Rattle.xt_discipline.specs.Walks.{IsKnown}

-- the frames of a core
abbrev pub frames_in : ℕ → Walk → Walked
frames_in zero w = w.side0.frames
frames_in (suc core) w = w.side1.frames

-- both cores are as they are known
pub record Stands (w : Walk) (b0 b1 : Bounds) (k : Known) : Type 0 where
  pub zero : IsKnown w.side0 0 b0 k.standing0 k.steps0
  pub one : IsKnown w.side1 1 b1 k.standing1 k.steps1

-- nothing but the end of the records ended the walk
abbrev pub is_whole : Judged → Bool
is_whole Whole = true
is_whole _ = false

-- the walk went on, and stands where something is known; or nothing is known
abbrev pub Ends : Bool → Walk → Bounds → Bounds → Option Known → Type 0
Ends true w b0 b1 (Some k) = Stands w b0 b1 k
Ends false w b0 b1 None = Unit {0}
Ends _ w b0 b1 _ = ⊥

-- a walk that stands where something is known, none where nothing is
abbrev pub IsThere : Option Walk → Bounds → Bounds → Option Known → Type 0
IsThere (Some w) b0 b1 (Some k) = Stands w b0 b1 k
IsThere None b0 b1 None = Unit {0}
IsThere _ b0 b1 _ = ⊥
