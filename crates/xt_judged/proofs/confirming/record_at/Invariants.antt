-- So many records were taken.
use Rattle.std.proofs.Common.{◌≡◌, drop}
use Rattle.xt_judged.proofs.confirming.record_at.Given as goal

abbrev pub invariant-loop : goal.invariant-loop
invariant-loop g l = g.R.Records.left l.records ≡ drop l.counter (g.R.Records.left l.fn.records)
