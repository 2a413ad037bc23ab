use Rattle.std.proofs.Common.{drop, length}
use Rattle.xt_trace.specs.Schedule.{schedule_in}
use Rattle.xt_simulation.specs.FirstLeak.{Watched}
use Rattle.xt_secret_walk.specs.Walked.{IsOn}
use Rattle.xt_secret_walk.proofs.walk.Walk.follow.Given as goal

abbrev pub invariant-loop-core : goal.invariant-loop-core
invariant-loop-core l =
    (r : Watched) → IsOn r l.fn.self (schedule_in l.run) 0 → IsOn r l.self (drop (length l.yielded) (schedule_in l.run)) (length l.yielded)
