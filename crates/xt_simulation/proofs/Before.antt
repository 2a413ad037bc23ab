-- Both cores before turn p of a run, each beside the machine of uses, and real memory beside memory of which judged accesses alone have written.
use Rattle.std.specs.Prelude.{Decides}
use Rattle.std.proofs.Common.{ℕ, Bool, not}
use Rattle.xt_map.specs.declared.contents.MemoryContents.{MemoryContents}
use Rattle.xt_map.specs.Touching.{IsMemory}
use Rattle.xt_map.specs.Code.{AreBytes}
use Rattle.xt_exec.specs.State.{State}
use Rattle.xt_frames.specs.FirstBreach.{Course, phase_before}
use Rattle.xt_simulation.specs.Handling.{IsGood}
use Rattle.xt_simulation.specs.Walking.{Apart}
use Rattle.xt_uses.specs.declared.discipline.Discipline.{Discipline}
use Rattle.xt_uses.specs.FirstUse.{History, IsHistory, IsLost}
use Rattle.xt_simulation.proofs.TwoCores.{TwoUse}
use Rattle.xt_simulation.proofs.TwoMemories.{MemoriesAlike}

-- what holds of a run at all of its turns
pub record Grounds (r : Course) (h : History) : Type 0 where
  pub bytes : AreBytes r.code
  pub good0 : IsGood r.code (r.bounds 0)
  pub good1 : IsGood r.code (r.bounds 1)
  pub apart : Apart (r.bounds 0).range (r.bounds 1).range
  pub discipline : Discipline
  pub history : IsHistory discipline r h

-- s and t are the states of core 0 and core 1, m is real memory, and of `framed` judged accesses alone have written
pub record Before (r : Course) (h : History) (p : ℕ) (m framed : MemoryContents) (s t : State) : Type 0 where
  pub lost0 : Bool
  pub lost1 : Bool
  pub is_lost0 : Decides lost0 (IsLost r h 0 p)
  pub is_lost1 : Decides lost1 (IsLost r h 1 p)
  pub both : TwoUse r.code (phase_before r 0 p) (phase_before r 1 p) m (r.bounds 0) (r.bounds 1) (not lost0) (not lost1) s t (h.state 0 p) (h.state 1 p)
  pub alike : MemoriesAlike r h p m framed
  pub frames : IsMemory framed
