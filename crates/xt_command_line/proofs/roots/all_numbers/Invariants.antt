-- What was read, before what the other parts say, is what all parts say.
use Rattle.std.proofs.Common.{◌≡◌, map, drop}
use Rattle.xt_command_line.specs.Numbers.{number_of}
use Rattle.xt_command_line.specs.Parts.{all_said}
use Rattle.xt_command_line.proofs.TurnTexts.{before}
use Rattle.xt_command_line.proofs.roots.all_numbers.Given as goal

abbrev pub invariant-loop-part : goal.invariant-loop-part
invariant-loop-part l = before l.numbers.items (all_said number_of (map (λ part. part.now) (drop l.part-index l.parts))) ≡ all_said number_of (map (λ part. part.now) l.parts)
