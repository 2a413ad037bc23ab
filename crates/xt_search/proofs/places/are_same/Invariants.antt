use Rattle.std.proofs.Common.{◌≡◌, ℕ, ◌<◌, get_or}
use Rattle.xt_search.specs.declared.changes.Change.{Change}
use Rattle.xt_search.proofs.places.are_same.Given as goal

abbrev pub invariant-loop-at : goal.invariant-loop-at
invariant-loop-at l = (k : ℕ) (d : Change) → k < l.at → get_or l.changes k d ≡ get_or l.others k d
