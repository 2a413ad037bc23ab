use Rattle.xt_lex.specs.Values.{HaveAddresses}
use Rattle.std.specs.List.{flat_map}
use Rattle.xt_layout.specs.Around.{each}
use Rattle.xt_layout.specs.Addresses.{labels_at}
use Rattle.xt_layout.proofs.Each.{Joins}
use Rattle.xt_layout.proofs.labels.labels_of.Given as goal

-- the labels so far, whose addresses fit
abbrev pub invariant-loop-k : goal.invariant-loop-k
invariant-loop-k l = record {
  joined : Joins (labels_at l.words l.addresses) l.labels.items l.k l.lines (flat_map (λ labels. labels) (each (labels_at l.words l.addresses) l.lines));
  fit : HaveAddresses l.labels.items;
}
