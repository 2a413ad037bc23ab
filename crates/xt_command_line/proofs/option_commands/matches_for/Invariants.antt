-- The command so far, with the arguments that follow, is the one with all arguments.
use Rattle.std.proofs.Common.{◌≡◌, drop}
use Rattle.std.specs.Prelude.{fold}
use Rattle.xt_command_line.specs.Forms.{app_with, with_argument}
use Rattle.xt_command_line.proofs.option_commands.matches_for.Given as goal

abbrev pub invariant-loop-one : goal.invariant-loop-one
invariant-loop-one l = fold with_argument l.command (drop l.one-index l.arguments) ≡ app_with l.name l.arguments
