use Rattle.xt_parse.proofs.LineCuts.{group_is_cut}
use Rattle.xt_parse.proofs.parsing.group_width.Goals as goal

pub returns-clause-cut : goal.returns-clause-cut
returns-clause-cut c = group_is_cut c.args.tokens.now _ c.width_of_line.result c.requires c.width_of_line.ensures.width
