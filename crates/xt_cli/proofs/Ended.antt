-- The end of a status other than Done, whatever the run does not meet.
use Rattle.std.proofs.Common.{◌≡◌, ℕ, List, Some, None, refl}
use Rattle.xt_report.specs.declared.status.Status.{Status}
use Rattle.xt_report.specs.declared.status.Status.TheVariants as status
use Rattle.xt_cli.specs.Endings.{IsEndOf}
use Rattle.xt_cli.specs.declared.ending.End.{End}

pub other_end : (s : Status) (line : List ℕ) (e : End) → (s ≡ status.Done → ⊥) → IsEndOf s None e → IsEndOf s (Some line) e
other_end status.Done line e other is = absurd (other refl)
other_end (status.Usage rule) line e other is = record { code = is.code; line = is.line }
other_end (status.Image f) line e other is = record { code = is.code; line = is.line }
other_end (status.Asm place) line e other is = record { code = is.code; line = is.line }
other_end (status.Elf f) line e other is = record { code = is.code; line = is.line }
other_end (status.Recording f) line e other is = record { code = is.code; line = is.line }
other_end status.ReadFault line e other is = record { code = is.code; line = is.line }
other_end status.WriteFault line e other is = record { code = is.code; line = is.line }
other_end (status.TooLarge limit) line e other is = record { code = is.code; line = is.line }
other_end status.Memory line e other is = record { code = is.code; line = is.line }
other_end status.PastEnd line e other is = record { code = is.code; line = is.line }
