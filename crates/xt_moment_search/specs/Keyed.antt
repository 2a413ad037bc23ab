-- Carries a proof; nothing that a reader must believe.
-- By what outcomes are told apart.
use Rattle.xt_moments.specs.Outcomes.{MomentOutcome}
use Rattle.xt_moment_search.specs.declared.keys.Key.{Key}

abbrev pub outcome_of : Key → MomentOutcome
outcome_of k = record { sent = k.sent.now; pc0 = k.pc0; pc1 = k.pc1; words = k.words.now }
