use Rattle.std.proofs.Common.{Ok, Err, cond, sym, ap}
use Rattle.xt_isa.proofs.Ranged.{spelling_in_range}
use Rattle.xt_names.specs.declared.argument.OperandFault.TheVariants.{Range}
use Rattle.xt_names.proofs.making.if_in_range.Goals as goal

pub returns-in-Some-clause-value : goal.returns-in-Some-clause-value
returns-in-Some-clause-value c =
    sym (ap (λ b. cond b (Ok c.args.i) (Err Range)) (spelling_in_range c.args.i (c.in-Some.field-0, (c.in-Some.ensures.1, c.in-Some.ensures.0))))

pub returns-in-Some-clause-fits : goal.returns-in-Some-clause-fits
returns-in-Some-clause-fits c = spelling_in_range c.args.i (c.in-Some.field-0, (c.in-Some.ensures.1, c.in-Some.ensures.0))
