use Rattle.std.proofs.Common.{ap₂, ◌∙◌}
use Rattle.std.specs.Prelude.{string_bytes}
use Rattle.xt_report.specs.Statuses.{name_and_numbers}
use Rattle.xt_report.proofs.Words.{plain_image, said}
use Rattle.xt_report.proofs.faults.image_fault_text.Goals as goal

pub returns-in_default : goal.returns-in_default
returns-in_default c =
    said string_bytes c.name_and_numbers.result _ _
    (ap₂ name_and_numbers c.image_fault_name.ensures c.image_fault_numbers.ensures ∙ plain_image c.args.fault.now c.in_default.not-Digest) c.name_and_numbers.ensures
