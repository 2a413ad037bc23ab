-- What was read, before what the other parts say, is what all parts say.
use Rattle.std.proofs.Common.{◌≡◌, All, map, drop}
use Rattle.xt_debug.specs.Grammar.{commands_of, IsInRange}
use Rattle.xt_debug.proofs.Commands.{before}
use Rattle.xt_debug.proofs.parsing.commands_in.Given as goal

abbrev pub invariant-loop-part : goal.invariant-loop-part
invariant-loop-part l = record {
  means : before l.commands.items (commands_of (map (λ part. part.now) (drop l.part-index l.parts))) ≡ commands_of (map (λ part. part.now) l.parts);
  range : All IsInRange l.commands.items;
}
