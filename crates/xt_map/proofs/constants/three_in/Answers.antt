use Rattle.std.proofs.Common.{arith}
use Rattle.xt_map.specs.declared.constants.Start.{Start}
use Rattle.xt_map.proofs.Indexed.{found_from, found_behind, three_same}
use Rattle.xt_map.proofs.constants.three_in.Goals as goal

abbrev no_start : Start
no_start = record { addr = 0; number = 0 }

pub returns-then-bytes-place-gt2 : goal.returns-then-bytes-place-gt2
returns-then-bytes-place-gt2 c =
    let one = found_from c.args.segments.now c.args.starts.now c.args.addr c.args.addr c.count_upto-count.result no_start c.index-segments-start.result c.as_slice-bytes.result.now
    c.requires.indexed c.count_upto-count.ensures (omega arith) c.as_slice-bytes.ensures (omega arith) (omega arith) c.requires.first in
    let two = found_behind c.args.segments.now c.args.starts.now c.args.addr 1 c.count_upto-count.result no_start c.index-segments-start.result c.as_slice-bytes.result.now
    c.requires.indexed c.count_upto-count.ensures (omega arith) c.as_slice-bytes.ensures (omega arith) c.requires.second in
    let three = found_behind c.args.segments.now c.args.starts.now c.args.addr 2 c.count_upto-count.result no_start c.index-segments-start.result c.as_slice-bytes.result.now
    c.requires.indexed c.count_upto-count.ensures (omega arith) c.as_slice-bytes.ensures (omega arith) c.requires.third in
    three_same _ _ _ _ _ _ one two three
