use Rattle.xt_map.specs.Memory.{constant_byte}
use Rattle.xt_moment_search.specs.Covering.{HasRun, snapshot_of}
use Rattle.xt_moment_search.proofs.machine.Moments.run.Given as goal

abbrev pub invariant-loop : goal.invariant-loop
invariant-loop l = HasRun (constant_byte l.self.ground.code) l.self.ground.opening.contents l.self.ground.cleared.contents l.fn.made (snapshot_of l.world) l.run
