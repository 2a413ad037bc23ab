use Rattle.xt_layout.proofs.Weighing.{parsed_is_small}
use Rattle.xt_layout.proofs.laws.parsed_lines_are_small.Goals as goal

pub returns : goal.returns
returns c = parsed_is_small
