use Rattle.std.proofs.Common.{◌++◌}
use Rattle.std.specs.Prelude.{flat_map}
use Rattle.std.specs.List.{zip}
use Rattle.std.specs.Iterator.Adapters.{zip_first, zip_second}
use Rattle.std.specs.Slice.Iter.{iter_rest}
use Rattle.std.proofs.lemmas.Slice.Zip.{either_empty_from_Zip}
use Rattle.xt_moment_search.specs.MomentLines.{value_line}
use Rattle.xt_moment_search.proofs.Words.{all_words}
use Rattle.xt_moment_search.proofs.lines.push_words.Goals as goal

pub returns : goal.returns
returns c =
    let it = c.loop-address.address-iterator in
    all_words (c.args.out.now.items ++ flat_map value_line (zip c.args.addresses.now c.args.values.now)) c.loop-address.out.items (iter_rest (zip_first it)) (iter_rest (zip_second it))
    (either_empty_from_Zip it c.next.new.self c.next.result c.in-None.is c.next.ensures.steps) c.loop-address.invariant
