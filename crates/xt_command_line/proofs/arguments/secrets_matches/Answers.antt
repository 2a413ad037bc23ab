use Rattle.xt_command_line.proofs.arguments.secrets_matches.Goals as goal

pub returns : goal.returns
returns c = c.matches_for.ensures
