-- The lines so far, and those of the words that are left, make the whole.
use Rattle.std.proofs.Common.{◌≡◌, ◌++◌}
use Rattle.std.specs.Prelude.{flat_map}
use Rattle.std.specs.List.{zip}
use Rattle.std.specs.Iterator.Adapters.{zip_first, zip_second}
use Rattle.std.specs.Slice.Iter.{iter_rest}
use Rattle.xt_moment_search.specs.MomentLines.{value_line}
use Rattle.xt_moment_search.proofs.lines.push_words.Given as goal

abbrev pub invariant-loop-address : goal.invariant-loop-address
invariant-loop-address l =
    l.out.items ++ flat_map value_line (zip (iter_rest (zip_first l.address-iterator)) (iter_rest (zip_second l.address-iterator))) ≡ l.initial.out.items ++ flat_map value_line (zip l.addresses l.values)
