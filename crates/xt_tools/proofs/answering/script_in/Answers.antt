use Rattle.std.proofs.Common.{sym, ◌∙◌}
use Rattle.xt_tools.proofs.Scripted.{no_script, script_of_text}
use Rattle.xt_tools.proofs.answering.script_in.Goals as goal

pub returns-in_default-clause-means : goal.returns-in_default-clause-means
returns-in_default-clause-means c = sym (no_script c.args.line.now c.in_default.ensures.cases.0)

pub returns-in-Ok-parse_script-clause-means : goal.returns-in-Ok-parse_script-clause-means
returns-in-Ok-parse_script-clause-means c =
    sym (script_of_text c.args.line.now c.in-Ok.text.now c.in-Ok.ensures.cases.0 c.in-Ok.ensures.cases.1 ∙ c.in-Ok-parse_script.ensures.means)
