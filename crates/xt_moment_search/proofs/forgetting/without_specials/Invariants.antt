use Rattle.xt_moment_search.specs.Forgetting.{ForgetsSide}
use Rattle.xt_moment_search.proofs.forgetting.without_specials.Given as goal

abbrev pub invariant-loop-n : goal.invariant-loop-n
invariant-loop-n l = ForgetsSide l.side l.kept
