-- What is so of the uses of a run of an image ('profile').
use Rattle.std.specs.Prelude.{◌≡◌, ℕ, ◌<◌, ◌≤◌, Bool, true, Option, Some, None}
use Rattle.xt_map.specs.declared.contents.MemoryContents.{MemoryContents}
use Rattle.xt_trace.specs.declared.record.StepRecord.{StepRecord}
use Rattle.xt_trace.specs.declared.run.Run.{Run}
use Rattle.xt_image.specs.declared.image.Image.{Image}
use Rattle.xt_frames.specs.declared.kinds.Breach.{Breach}
use Rattle.xt_frames.specs.FirstBreach.{Course, IsFirstBreach, IsJudgedTurn}
use Rattle.xt_discipline.specs.Verdicts.{are_checked, course_of}
use Rattle.xt_report.specs.Framed.{opening}
use Rattle.xt_simulation.specs.Opening.{memory_of}
use Rattle.xt_simulation.specs.Walking.{Apart}
use Rattle.xt_uses.specs.declared.discipline.Discipline.TheVariants.{Lenient}
use Rattle.xt_uses.specs.declared.discipline.Discipline.{Discipline}
use Rattle.xt_uses.specs.FirstUse.{History, IsFirstUse, IsHistory, carried_count}
use Rattle.xt_uses.specs.UseLaws.{IsUseRun}
use Rattle.xt_use_walk.specs.declared.walk.Uses.{Uses}
use Rattle.xt_use_walk.specs.declared.walk.Uses.TheVariants.{Unchecked, Whole, Broken}
use Rattle.xt_use_walk.specs.Verdicts.{IsUsesOf}
use Rattle.xt_simulation.specs.Fillings.{Filling}
use Rattle.xt_simulation.specs.FillingLaws.{FollowsRecord}

-- the breach that an answer names, if it names one
abbrev pub found_in : Uses → Option Breach
found_in (Broken first) = Some first.breach
found_in _ = None

-- Whatever stands where nothing is known: of each judged record before this turn the machine of
-- frames over any filling has the PC, the kind, the access, the byte that is sent, and each known
-- bit of what is written and stored.
abbrev pub AreDecided : Discipline → Course → History → ℕ → Type 0
AreDecided d c history place =
    (n : Filling) (p core : ℕ) (rec : StepRecord) → p < place → IsJudgedTurn c p core rec
    → FollowsRecord d c history n p core rec

-- Where the handlers pass and the two stacks are apart: the breach of the answer stands at this
-- turn, or none does and it is the end; and of each judged record before the first breach the
-- machine of uses has the PC, the kind, and what is known of the write, the access and the reply,
-- over one memory. Up to there what is not known decides nothing.
pub record AreSo (d : Discipline) (c : Course) (opening : MemoryContents) (uses : Uses) : Type 0 where
  pub history : History
  pub is_history : IsHistory d c history
  pub place : ℕ
  pub is_first : IsFirstUse c history place (found_in uses)
  pub fits : IsUseRun c opening
  pub decided : AreDecided d c history place

abbrev pub AreUsesSo : Discipline → Image → Run → Uses → Type 0
AreUsesSo d image r uses =
    are_checked image r.options ≡ true
    → Apart (opening image r).range0 (opening image r).range1
    → AreSo d (course_of image r) (memory_of (opening image r)) uses

-- The first breach of the lenient discipline is never before that of the stack discipline; where
-- that shows none, there is none of uses, and nothing unknown is carried.
abbrev pub IsLater : Course → Type 0
IsLater c =
    (h : History) (p q : ℕ) (breach found : Option Breach)
    → IsHistory Lenient c h → IsFirstBreach c p breach → IsFirstUse c h q found
    → (p ≤ q)
    × (breach ≡ None → (found ≡ None) × (carried_count c h 0 q ≡ 0) × (carried_count c h 1 q ≡ 0))

-- so where the stack discipline shows none, the answer of the lenient discipline is that uses are
-- whole and carry nothing
pub record AreLater (d : Discipline) (c : Course) (checked : Bool) (uses : Uses) : Type 0 where
  pub later : IsLater c
  pub whole :
      d ≡ Lenient → checked ≡ true → (p : ℕ) → IsFirstBreach c p None → uses ≡ Whole 0 0

abbrev pub AreUsesLater : Discipline → Image → Run → Uses → Type 0
AreUsesLater d image r uses = AreLater d (course_of image r) (are_checked image r.options) uses

-- no other answer is one of the run
abbrev pub IsOnly : Discipline → Image → Run → Uses → Type 0
IsOnly d image r uses =
    (other : Uses) → IsUsesOf d (are_checked image r.options) (course_of image r) other
    → other ≡ uses
