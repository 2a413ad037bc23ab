use Rattle.std.proofs.Common.{arith}
use Rattle.xt_map.specs.declared.constants.Start.{Start}
use Rattle.xt_map.proofs.Indexed.{none_upto, found_from, none_found}
use Rattle.xt_map.proofs.constants.byte_in.Goals as goal

pub returns-then-count-eq0 : goal.returns-then-count-eq0
returns-then-count-eq0 c = none_upto c.args.segments.now c.args.starts.now c.args.addr _ c.requires.indexed c.count_upto-count.ensures c.if-count-eq0.true c.requires.constant

abbrev no_start : Start
no_start = record { addr = 0; number = 0 }

pub returns-then-place-bytes : goal.returns-then-place-bytes
returns-then-place-bytes c =
    found_from c.args.segments.now c.args.starts.now c.args.addr c.args.addr c.count_upto-count.result no_start c.index-segments-start.result c.as_slice-bytes.result.now
    c.requires.indexed c.count_upto-count.ensures (omega arith) c.as_slice-bytes.ensures (omega arith) (omega arith) c.requires.constant

pub returns-else-place-bytes : goal.returns-else-place-bytes
returns-else-place-bytes c =
    none_found c.args.segments.now c.args.starts.now c.args.addr c.count_upto-count.result no_start c.index-segments-start.result c.as_slice-bytes.result.now
    c.requires.indexed c.count_upto-count.ensures (omega arith) c.as_slice-bytes.ensures (omega arith) c.requires.constant
