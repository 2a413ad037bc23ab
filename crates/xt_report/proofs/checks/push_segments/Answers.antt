use Rattle.std.proofs.Common.{◌≡◌, ◌++◌, string_bytes}
use Rattle.xt_disasm.specs.Listing.{segment_line}
use Rattle.xt_disasm.proofs.Segmented.{one_segment_more}
use Rattle.xt_report.specs.Checks.{line_of, segment_lines}
use Rattle.xt_report.proofs.checks.push_segments.Goals as goal

pub loop-number-preserved : goal.loop-number-preserved
loop-number-preserved c =
    let segment = c.index-segments-number.result in
    let before = string_bytes c.loop-number.out in
    let after = string_bytes c.push_segment_line.new.out in
    let printed : after ≡ before ++ segment_line c.loop-number.number segment = c.in_ok-push_segment_line.ensures in
    one_segment_more line_of before after (string_bytes c.args.out.now ++ segment_lines c.args.segments.now) c.loop-number.number c.args.segments.now segment
    c.loop-number-test.true c.index-segments-number.is printed c.loop-number.invariant
