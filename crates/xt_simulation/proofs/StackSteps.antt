-- A step that shows no breach keeps the chain of stack pointers, where the code is of bytes.
use Rattle.xt_map.proofs.Fetches.{fetched_range}
use Rattle.xt_frames.proofs.StackSteps as step
use Rattle.xt_simulation.specs.JudgedSteps.{KeepsStack}

pub keeps_stack : KeepsStack
keeps_stack code bytes b fresh live stale rec g k calls none =
    step.keeps_stack code b fresh live stale rec g k calls
    (λ i len level waits e. fetched_range code g.control.pc i len bytes e) none
