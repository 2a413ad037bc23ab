use Rattle.std.proofs.Common.{◌≡◌}
use Rattle.xt_machine_tests.proofs.sharedbus_tests.make_all.Given as goal

abbrev pub invariant-loop : goal.invariant-loop
invariant-loop g l = (l.seat.bus ≡ l.bus) × (l.seat.core ≡ l.fn.seat.core)
