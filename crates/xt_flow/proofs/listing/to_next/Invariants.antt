use Rattle.std.proofs.Common.{◌≡◌, ◌+◌, ◌-◌}
use Rattle.xt_flow.specs.FlowTables.{is_marked}
use Rattle.xt_flow.specs.Printing.{to_next}
use Rattle.xt_flow.proofs.listing.to_next.Given as goal

abbrev pub invariant-loop-k : goal.invariant-loop-k
invariant-loop-k l = l.k + to_next (λ a. is_marked l.starts a) (l.at + l.k) (l.most - l.k) ≡ to_next (λ a. is_marked l.starts a) l.at l.most
