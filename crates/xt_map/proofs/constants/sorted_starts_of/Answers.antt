use Rattle.std.proofs.Common.{rules}
use Rattle.std.proofs.lemmas.List.Sorted.{IsNonDecreasingBy-from_sort_by_key}
use Rattle.xt_map.proofs.Indexed.{starts_moved}
use Rattle.xt_map.proofs.constants.sorted_starts_of.Goals as goal

pub returns : goal.returns
returns c = record {
  placed = c.requires;
  has_starts = starts_moved _ _ _ c.sort_unstable_by_key.ensures.permutation c.in_ok-starts.ensures;
  ascending = IsNonDecreasingBy-from_sort_by_key (λ s. s.addr) _ c.sort_unstable_by_key.ensures.sorted (λ a r q k. search rules);
}
