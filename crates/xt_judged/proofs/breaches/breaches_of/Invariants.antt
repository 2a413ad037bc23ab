use Rattle.std.specs.Prelude.{All}
use Rattle.xt_judged.specs.Once.{HaveOwn}
use Rattle.xt_judged.specs.OrderFrames.{IsRealBreach, place_of}
use Rattle.xt_judged.proofs.breaches.breaches_of.Given as goal

abbrev pub invariant-loop-number : goal.invariant-loop-number
invariant-loop-number g l = record {
  real : All (IsRealBreach l.image l.options l.timed) l.list.items;
  once : HaveOwn place_of l.list.items;
}
