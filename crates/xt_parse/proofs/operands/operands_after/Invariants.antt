-- The operands so far and those of the shapes that are left are those that are read.
use Rattle.std.proofs.Common.{◌≡◌, ◌∷◌, [], drop}
use Rattle.xt_parse.specs.Reading.{with_front, operands_behind}
use Rattle.xt_parse.proofs.operands.operands_after.Given as goal

abbrev pub invariant-loop-shape : goal.invariant-loop-shape
invariant-loop-shape l = with_front l.found.items (operands_behind (drop l.shape-index l.shapes) l.rest) ≡ with_front (l.fn.first ∷ []) (operands_behind l.shapes l.tokens)
