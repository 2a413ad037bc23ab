use Rattle.xt_command_line.proofs.listings.dis_matches.Goals as goal

pub returns : goal.returns
returns c = c.matches_for.ensures
