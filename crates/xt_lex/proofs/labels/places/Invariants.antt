-- The first of the labels that were gone through is found for each name.
use Rattle.std.proofs.Common.{◌≡◌, List, ℕ, drop}
use Rattle.std.specs.BTreeMap.{get}
use Rattle.std.specs.Cmp.Lexicographic.{slice_cmp}
use Rattle.std.specs.Ordering.{nat_cmp}
use Rattle.xt_lex.specs.Labels.{first_label, label_at}
use Rattle.xt_lex.proofs.labels.places.Given as goal

abbrev pub invariant-loop-place : goal.invariant-loop-place
invariant-loop-place l = (q : List ℕ) → label_at l.items (get (slice_cmp nat_cmp) l.found q) ≡ first_label q (drop l.place l.items)
