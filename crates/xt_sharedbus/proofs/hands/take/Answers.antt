use Rattle.std.proofs.Common.{subst, sym}
use Rattle.xt_sharedbus.specs.Halves.{IsIdle}
use Rattle.xt_sharedbus.proofs.Halves.{idle_takes}
use Rattle.xt_sharedbus.proofs.hands.take.Goals as goal

pub pop_as-requires-clause-rule : goal.pop_as-requires-clause-rule
pop_as-requires-clause-rule g c = (idle_takes _ _ (subst IsIdle (sym c.loop-2.invariant.2) c.requires.idle), λ items views k at. tt)
