use Rattle.std.proofs.Common.{◌≡◌, map, take}
use Rattle.xt_map.specs.Serving.{number_at}
use Rattle.xt_search.specs.Changed.{contents_of}
use Rattle.xt_moments.proofs.outcome.values.Given as goal

abbrev pub invariant-loop-word : goal.invariant-loop-word
invariant-loop-word l =
    l.values.items
    ≡ map (λ a. number_at (contents_of l.opening.contents l.changes) a 4) (take l.word-index
    l.words)
