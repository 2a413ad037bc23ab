use Rattle.std.proofs.Common.{sym, ◌∙◌, ap}
use Rattle.xt_lex.specs.Fronts.{longer, decimal_front}
use Rattle.xt_lex.proofs.FrontLemmas.{hex_is_longer}
use Rattle.xt_lex.proofs.fronts.number.Goals as goal

pub returns-in-Some : goal.returns-in-Some
returns-in-Some c = sym (hex_is_longer c.args.bytes.now c.in-Some.front (sym c.in-Some.ensures)) ∙ ap (longer (decimal_front c.args.bytes.now)) c.in-Some.ensures
