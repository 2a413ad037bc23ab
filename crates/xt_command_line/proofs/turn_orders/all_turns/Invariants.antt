-- What was read, before what the other parts say, is what all parts say.
use Rattle.std.proofs.Common.{◌≡◌, map, drop}
use Rattle.xt_command_line.specs.Parts.{all_said}
use Rattle.xt_command_line.specs.TurnOrders.{turns_of}
use Rattle.xt_command_line.proofs.TurnTexts.{before}
use Rattle.xt_command_line.proofs.turn_orders.all_turns.Given as goal

abbrev pub invariant-loop-part : goal.invariant-loop-part
invariant-loop-part l = before l.turns.items (all_said turns_of (map (λ part. part.now) (drop l.part-index l.parts))) ≡ all_said turns_of (map (λ part. part.now) l.parts)
