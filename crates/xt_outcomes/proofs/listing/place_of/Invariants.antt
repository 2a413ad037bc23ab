use Rattle.std.proofs.Common.{◌≡◌, ◌+◌, drop}
use Rattle.xt_outcomes.specs.Added.{place_in}
use Rattle.xt_outcomes.proofs.listing.place_of.Given as goal

abbrev pub invariant-loop-found : goal.invariant-loop-found
invariant-loop-found l = record {
  at : l.place ≡ l.found-index;
  rest : l.place + place_in (drop l.found-index l.list) l.outcome ≡ place_in l.list l.outcome;
}
