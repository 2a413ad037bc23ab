-- Each answer is what `read_number` says of the parsed number, at the variant that came.
use Rattle.std.proofs.Common.{◌∙◌, sym, ap, arith}
use Rattle.xt_command_line.proofs.Digits.{limited, read_number}
use Rattle.xt_command_line.proofs.numbers.limited_number.Goals as goal

pub returns-in-Ok-clause-number : goal.returns-in-Ok-clause-number
returns-in-Ok-clause-number c = c.then_some.ensures ∙ ap (limited c.args.most) (sym c.in-Ok.is)
    ∙ read_number _ _ _ _ _ (omega arith) c.as_bytes.ensures.value c.are_digits.ensures c.if-not-are_digits.false c.parse.ensures.value.0

pub returns-in-Err-clause-number : goal.returns-in-Err-clause-number
returns-in-Err-clause-number c = ap (limited c.args.most) (sym c.in-Err.is)
    ∙ read_number _ _ _ _ _ (omega arith) c.as_bytes.ensures.value c.are_digits.ensures c.if-not-are_digits.false c.parse.ensures.value.0
