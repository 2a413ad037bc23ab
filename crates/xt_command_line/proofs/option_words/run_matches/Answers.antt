use Rattle.xt_command_line.proofs.option_words.run_matches.Goals as goal

pub returns : goal.returns
returns c = c.matches_for.ensures
