-- The lines of the outcomes so far were appended.
use Rattle.std.proofs.Common.{◌≡◌, ◌++◌, take}
use Rattle.std.specs.Prelude.{flat_map}
use Rattle.xt_judged.specs.OutcomesText.{outcome_text}
use Rattle.xt_judged.proofs.texts.push_outcomes.Given as goal

abbrev pub invariant-loop-found : goal.invariant-loop-found
invariant-loop-found l = l.out.items ≡ l.initial.out.items ++ flat_map (outcome_text l.addresses) (take l.found-index l.list)
