-- The place behind the segments so far.
use Rattle.std.proofs.Common.{◌≡◌, take}
use Rattle.xt_image.specs.Layout.{end_of}
use Rattle.xt_image.proofs.writing.end_of.Given as goal

abbrev pub invariant-loop-segment : goal.invariant-loop-segment
invariant-loop-segment l = l.end ≡ end_of (take l.segment-index l.segments)
