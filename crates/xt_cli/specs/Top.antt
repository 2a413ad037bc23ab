-- What each status of the program says ('profile').
use Rattle.std.specs.Prelude.{◌≡◌, None, Result, Ok}
use Rattle.xt_command_line.specs.declared.command.Refusal.{Refusal}
use Rattle.xt_report.specs.Calls.{Ends}
use Rattle.xt_runs.specs.declared.outcome.Outcome.{Outcome}
use Rattle.xt_runs.specs.Runs.{FinishesGen, FinishesRun, Generates, Runs}
use Rattle.xt_cli.specs.declared.tool.Tool.TheVariants as tool
use Rattle.xt_cli.specs.declared.orders.Order.{Order}
use Rattle.xt_cli.specs.declared.orders.Order.TheVariants as order
use Rattle.xt_cli.specs.Tools as tools

-- the source was not touched
pub record IsUnread (e : Ends) : Type 0 where
  pub left : e.left_after ≡ e.left
  pub faults : e.source_faults_after ≡ e.source_faults

-- Each answer by what the words ask for: a run's, that of `gen`, or that of the commands that need
-- no thread, which hand out no run.
abbrev pub Answers : Result Order Refusal → Ends → Outcome → Type 0
Answers (Ok (order.Run wanted options)) e o =
    Runs wanted options e o.status o.run o.unmet
Answers (Ok (order.Generate number)) e o =
    IsUnread e
    × Generates number e.told e.told_after e.sink_faults e.sink_faults_after o.status o.run
    × (o.unmet ≡ None)
Answers asked e o =
    tools.Answers asked e (tool.Answer o.status) × (o.run ≡ None) × (o.unmet ≡ None)

-- ---- completeness

abbrev pub IsComplete : Result Order Refusal → Ends → Outcome → Type 0
IsComplete (Ok (order.Run wanted options)) e o = FinishesRun e o.status
IsComplete (Ok (order.Generate number)) e o =
    FinishesGen e.sink_faults e.sink_faults_after o.status
IsComplete asked e o = tools.IsComplete asked e (tool.Answer o.status)
