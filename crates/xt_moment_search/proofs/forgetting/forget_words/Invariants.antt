use Rattle.xt_moment_search.specs.Forgetting.{ForgetsBytes}
use Rattle.xt_moment_search.proofs.forgetting.forget_words.Given as goal

abbrev pub invariant-loop-place : goal.invariant-loop-place
invariant-loop-place l = ForgetsBytes l.ground.opening.contents l.ground.cleared.contents l.initial.bytes l.bytes
