use Rattle.std.proofs.Common.{length}
use Rattle.xt_layout.proofs.Wording.{Homes}
use Rattle.xt_layout.proofs.addresses.settle_all.Given as goal

abbrev pub invariant-loop-i : goal.invariant-loop-i
invariant-loop-i l = Homes l.homes l.words l.addresses l.i (length l.fn.homes)
