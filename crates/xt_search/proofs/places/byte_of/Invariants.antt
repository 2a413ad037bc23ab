use Rattle.std.proofs.Common.{◌≡◌, drop}
use Rattle.xt_search.specs.Changed.{byte_in}
use Rattle.xt_search.proofs.places.byte_of.Given as goal

abbrev pub invariant-loop-change : goal.invariant-loop-change
invariant-loop-change l = byte_in (drop l.change-index l.changes) l.addr l.other ≡ byte_in l.changes l.addr l.other
