use Rattle.std.proofs.Common.{◌≡◌, drop}
use Rattle.std.specs.Prelude.{fold}
use Rattle.xt_image.proofs.Folds.{with_bytes}
use Rattle.xt_image.proofs.bytes.checksum_of.Given as goal

-- what is left comes to the whole
abbrev pub invariant-loop-segment : goal.invariant-loop-segment
invariant-loop-segment l = fold with_bytes l.sum (drop l.segment-index l.segments) ≡ fold with_bytes 0xEF l.segments
