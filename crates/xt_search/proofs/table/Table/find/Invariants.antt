-- The number leads into the chain, and no world of the chain that it has passed is the same.
use Rattle.std.proofs.Common.{◌≡◌, ℕ, suc, ◌+◌, ◌≤◌, Some, List, length, slice_get}
use Rattle.xt_search.specs.Chains.{IsChained, chain_of}
use Rattle.xt_search.specs.Graphs.{IsAt}
use Rattle.xt_search.proofs.table.Table.find.Given as goal

abbrev pub invariant-loop : goal.invariant-loop
invariant-loop g l = record {
  within : l.number + l.counter ≤ length l.kept.items;
  chain : (cs : List ℕ) (n : ℕ) → IsChained l.self.last.items l.self.before.items cs → l.number ≡ suc n → slice_get cs n ≡ Some (chain_of l.digest);
  passed : (cs : List ℕ) (k : ℕ) (w : g.row.M-World.Denot) → IsChained l.self.last.items l.self.before.items cs → slice_get cs k ≡ Some (chain_of l.digest) → l.number ≤ k
      → IsAt l.kept.items k w → g.M.Machine.Same l.machine w l.world → ⊥;
}
