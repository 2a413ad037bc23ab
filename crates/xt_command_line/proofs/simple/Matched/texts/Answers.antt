use Rattle.std.proofs.Common.{ap, ◌∙◌}
use Rattle.clap.specs.Words.{all_of, found_of}
use Rattle.clap.proofs.WalkLemmas.{raw_values-rows}
use Rattle.xt_command_line.proofs.simple.Matched.texts.Goals as goal

pub returns : goal.returns
returns c = c.get_raw.ensures ∙ raw_values-rows (found_of c.self.inside.matches) c.args.name.now ∙ ap (all_of c.args.name.now) c.self.view_is
