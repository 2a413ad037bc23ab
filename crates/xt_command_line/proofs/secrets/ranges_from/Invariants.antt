-- What was read, before what the other places say, is what all say.
use Rattle.std.proofs.Common.{◌≡◌, drop}
use Rattle.xt_command_line.specs.Parts.{all_said}
use Rattle.xt_command_line.specs.Secrets.{range_of}
use Rattle.xt_command_line.proofs.TurnTexts.{before}
use Rattle.xt_command_line.proofs.secrets.ranges_from.Given as goal

abbrev pub invariant-loop-span : goal.invariant-loop-span
invariant-loop-span l = before l.ranges.items (all_said range_of (drop l.span-index l.spans)) ≡ all_said range_of l.spans
