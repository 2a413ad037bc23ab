use Rattle.std.proofs.Common.{◌≡◌, ◌++◌, ◌∙◌, ap, string_bytes, rules}
use Rattle.xt_disasm.specs.Listing.{listing_text, segment_text}
use Rattle.xt_disasm.proofs.Segmented.{no_segment_left, one_segment_more, printed_from}
use Rattle.xt_disasm.proofs.lines.listing.Goals as goal

pub loop-number-preserved : goal.loop-number-preserved
loop-number-preserved c =
    let segments = c.as_slice-segment-items.result.now in
    let printed : string_bytes c.push_segment.new.out ≡ string_bytes c.loop-number.out ++ segment_text (c.loop-number.number, c.segment-item.result) = c.in_ok-push_segment.ensures in
    one_segment_more segment_text (string_bytes c.loop-number.out) (string_bytes c.push_segment.new.out) (printed_from segment_text 0 segments) c.loop-number.number segments c.segment-item.result c.loop-number-test.true c.segment-item.is printed c.loop-number.invariant

pub returns : goal.returns
unfolding listing_text
returns c =
    let segments = c.as_slice-segment-items.result.now in
    let whole : string_bytes c.loop-number.out ≡ printed_from segment_text 0 segments = no_segment_left segment_text (string_bytes c.loop-number.out) (printed_from segment_text 0 segments) c.loop-number.number segments c.loop-number-test.false c.loop-number.invariant in
    let bytes : c.into_bytes.result.items ≡ string_bytes c.loop-number.out = search rules in
    c.new.ensures ∙ bytes ∙ whole ∙ ap (λ xs. printed_from segment_text 0 xs) c.as_slice-segment-items.ensures
