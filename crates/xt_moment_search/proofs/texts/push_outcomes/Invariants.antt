-- The lines of the outcomes so far were appended.
use Rattle.std.proofs.Common.{◌≡◌, ◌++◌, take}
use Rattle.std.specs.Prelude.{flat_map}
use Rattle.xt_moment_search.specs.MomentLines.{found_text}
use Rattle.xt_moment_search.proofs.texts.push_outcomes.Given as goal

abbrev pub invariant-loop-found : goal.invariant-loop-found
invariant-loop-found l = l.out.items ≡ l.initial.out.items ++ flat_map (found_text l.addresses) (take l.found-index l.list)
