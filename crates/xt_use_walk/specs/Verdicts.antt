-- What the discipline of uses says of a run of an image ('profile').
use Rattle.std.specs.Prelude.{◌≡◌, ℕ, Bool, true, false, Some, None}
use Rattle.xt_frames.specs.FirstBreach.{Course, IsTurn}
use Rattle.xt_uses.specs.declared.discipline.Discipline.{Discipline}
use Rattle.xt_uses.specs.FirstUse.{History, IsFirstUse, IsHistory, IsVerdict}
use Rattle.xt_uses.specs.Lacks.{lacks_before}
use Rattle.xt_use_walk.specs.declared.walk.FirstUse.{FirstUse}
use Rattle.xt_use_walk.specs.declared.walk.Uses.{Uses}
use Rattle.xt_use_walk.specs.declared.walk.Uses.TheVariants.{Unchecked, Whole, Broken}

-- the first breach, its record, and the registers that the record's instruction reads and of which
-- not every bit is known
pub record IsBroken (d : Discipline) (r : Course) (first : FirstUse) : Type 0 where
  pub history : History
  pub is_history : IsHistory d r history
  pub place : ℕ
  pub is_first : IsFirstUse r history place (Some first.breach)
  pub turn : IsTurn r place first.breach.core first.rec
  pub lacks :
      first.lacks ≡ lacks_before r.code first.rec (history.state first.breach.core place)

-- where the six window handlers pass their check: the first breach; or none, and how many judged
-- steps of core 0 and core 1 carry what is not known
abbrev pub IsSaid : Discipline → Course → Uses → Type 0
IsSaid d r Unchecked = ⊥
IsSaid d r (Whole n m) = IsVerdict d r None n m
IsSaid d r (Broken first) = IsBroken d r first

-- `checked`: the six window handlers pass the check
abbrev pub IsUsesOf : Discipline → Bool → Course → Uses → Type 0
IsUsesOf d false r uses = uses ≡ Unchecked
IsUsesOf d true r uses = IsSaid d r uses

-- a run has one answer by a discipline
abbrev pub UsesAreOne : Type 0
UsesAreOne =
    (d : Discipline) (checked : Bool) (r : Course) (one other : Uses)
    → IsUsesOf d checked r one → IsUsesOf d checked r other → one ≡ other
