use Rattle.std.proofs.Common.{◌^◌, lit≤}
use Rattle.xt_layout.proofs.spot.passes.Goals as goal

pub spot_past-requires-clause-below : goal.spot_past-requires-clause-below
spot_past-requires-clause-below c = c.in-Some.ensures.below (2 ^ 62) (lit≤ tt) c.requires.below

pub returns-in-Some-clause-below : goal.returns-in-Some-clause-below
returns-in-Some-clause-below c = λ n le h. c.spot_past.ensures.below n le (c.in-Some.ensures.below n le h)
