-- What is counted so far, and what the phases and the records that are left make of it.
use Rattle.std.proofs.Common.{◌≡◌, ◌+◌, List, drop}
use Rattle.xt_map.specs.Memory.{constant_byte}
use Rattle.xt_profile.specs.Steps.{Step}
use Rattle.xt_profile.specs.CountedSteps.{IsTally, Origin}
use Rattle.xt_profile.proofs.PastCut.{Going}
use Rattle.xt_profile.proofs.later.count_left.Given as goal

abbrev pub invariant-loop-phase : goal.invariant-loop-phase
invariant-loop-phase g l =
    (l.tally.steps ≡ l.fn.tally.steps + l.phase-index)
    × ((o : Origin) (past : List Step) → IsTally o past l.fn.tally
    → Going (constant_byte l.code) o past l.phases (g.R.Records.left l.fn.records) (drop l.phase-index l.phases) (g.R.Records.left l.records) l.tally)
