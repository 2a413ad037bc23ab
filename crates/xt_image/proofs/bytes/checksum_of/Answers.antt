use Rattle.std.proofs.Common.{sym, ◌∙◌, ap}
use Rattle.std.proofs.lemmas.List.{drop_all}
use Rattle.std.specs.Prelude.{fold, bit_xor}
use Rattle.xt_image.proofs.Folds.{fold-flat_map, with_bytes}
use Rattle.xt_image.proofs.bytes.checksum_of.Goals as goal

pub returns : goal.returns
returns c =
    let segments = c.args.segments.now in
    sym (ap (fold with_bytes c.loop-segment.sum) (drop_all c.loop-segment.segment-index segments c.loop-segment-test.false))
    ∙ c.loop-segment.invariant ∙ sym (fold-flat_map bit_xor (λ s. s.bytes) 0xEF segments)
