-- Carries a proof; nothing that a reader must believe.
-- The arguments of a simple command of clap, in the order in which it gets them.
use Rattle.std.specs.Prelude.{ℕ, List, Some, fold}
use denote.Ref.{Bor}
use Rattle.clap.specs.Words.{App, Rule, Text, new_app, with_rule}
use Rattle.clap.specs.declared.builder.action.ArgAction.TheVariants.{Append}
use Rattle.xt_command_line.specs.Arguments.{positional_rule}
use Rattle.xt_command_line.specs.Options.{flag_rule, option_rule}
use Rattle.xt_command_line.specs.declared.simple.Form.{Form}
use Rattle.xt_command_line.specs.declared.simple.Form.TheVariants as form

abbrev pub rule_by : Form → Text → Rule
rule_by form.Positional name = positional_rule name
rule_by form.Text name = option_rule name
rule_by form.Texts name = record (option_rule name) { action = Some Append }
rule_by form.Flag name = flag_rule name

abbrev pub with_argument : App → Form × Bor (List ℕ) → App
with_argument app argument = with_rule app (rule_by argument.0 argument.1.now)

abbrev pub app_with : Text → List (Form × Bor (List ℕ)) → App
app_with name arguments = fold with_argument (new_app name) arguments
