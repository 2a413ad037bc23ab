use Rattle.std.proofs.Common.{sym, ap, ◌∙◌}
use Rattle.xt_isa.specs.Spelling.{spelled_insn}
use Rattle.xt_codec.proofs.EncodedRows.{code}
use Rattle.xt_codec.proofs.fields_of.Goals as goal

pub returns-then-in_range : goal.returns-then-in_range
returns-then-in_range c =
    (ap spelled_insn c.fields_from.ensures.value ∙ code c.args.i (sym c.if-in_range.ensures), c.fields_from.ensures.nibbles, c.fields_from.ensures.third)
