-- What was read, before what the other parts say, is what all parts say.
use Rattle.std.proofs.Common.{◌≡◌, map, drop}
use Rattle.xt_command_line.specs.Parts.{all_said}
use Rattle.xt_command_line.specs.Spans.{span_of}
use Rattle.xt_command_line.proofs.TurnTexts.{before}
use Rattle.xt_command_line.proofs.spans.all_spans.Given as goal

abbrev pub invariant-loop-part : goal.invariant-loop-part
invariant-loop-part l = before l.spans.items (all_said span_of (map (λ part. part.now) (drop l.part-index l.parts))) ≡ all_said span_of (map (λ part. part.now) l.parts)
