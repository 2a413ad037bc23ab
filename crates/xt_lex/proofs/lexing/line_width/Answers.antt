use Rattle.xt_lex.proofs.CutLemmas.{cut_behind, cut_at_end}
use Rattle.xt_lex.proofs.lexing.line_width.Goals as goal

pub returns-then-before-text-clause-cut : goal.returns-then-before-text-clause-cut
returns-then-before-text-clause-cut c = cut_behind c.args.text.now c.width_of-before.result c.width_of-before.ensures.width c.if-before-text.true

pub returns-else-before-text-clause-cut : goal.returns-else-before-text-clause-cut
returns-else-before-text-clause-cut c = cut_at_end c.args.text.now c.width_of-before.result c.width_of-before.ensures.width c.requires c.if-before-text.false
