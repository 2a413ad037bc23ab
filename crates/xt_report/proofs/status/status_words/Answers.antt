use Rattle.std.proofs.Common.{ap₂, ◌∙◌}
use Rattle.std.specs.Prelude.{string_bytes}
use Rattle.xt_report.specs.Statuses.{name_and_numbers}
use Rattle.xt_report.proofs.Words.{plain_status, said}
use Rattle.xt_report.proofs.status.status_words.Goals as goal

pub returns-in_default : goal.returns-in_default
returns-in_default c =
    said string_bytes c.name_and_numbers.result _ _
    (ap₂ name_and_numbers c.status_name.ensures c.status_numbers.ensures ∙ plain_status c.args.status.now c.in_default.not-Image c.in_default.not-Elf c.in_default.not-Recording) c.name_and_numbers.ensures
