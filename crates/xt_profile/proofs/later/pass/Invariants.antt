-- What is to be left in the end is what comes of passing over those that are still to be passed.
use Rattle.std.proofs.Common.{◌≡◌, ◌-◌, drop}
use Rattle.xt_profile.proofs.later.pass.Given as goal

abbrev pub invariant-loop : goal.invariant-loop
invariant-loop g l = drop (l.count - l.counter) (g.R.Records.left l.records) ≡ drop l.count (g.R.Records.left l.fn.records)
