use Rattle.std.specs.Prelude.{◌≡◌}
use Rattle.xt_window.specs.FrontAndRing.{written_back}
use Rattle.xt_window.proofs.front.write_back.Given as goal

abbrev pub invariant-loop-i : goal.invariant-loop-i
invariant-loop-i l = l.ring ≡ written_back l.initial.ring l.front l.base l.i
