use Rattle.std.proofs.Common.{◌≡◌, ◌+◌, drop}
use Rattle.xt_search.specs.Changed.{place_in}
use Rattle.xt_search.proofs.places.place_of.Given as goal

abbrev pub invariant-loop-change : goal.invariant-loop-change
invariant-loop-change l = record {
  at : l.place ≡ l.change-index;
  rest : l.place + place_in (drop l.change-index l.changes) l.addr ≡ place_in l.changes l.addr;
}
