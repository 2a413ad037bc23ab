-- The inputs that are images or recordings, and the status with which they are refused ('profile').
use Rattle.std.specs.Prelude.{ℕ, List, Option}
use Rattle.std.specs.Option.{option_map}
use Rattle.xt_image.specs.Rules.{image_fault}
use Rattle.xt_record.specs.Format.{recording_fault}
use Rattle.xt_report.specs.declared.status.Status.{Status}
use Rattle.xt_report.specs.declared.status.Status.TheVariants as status

-- the status of an input's first fault as an image, if it has one
abbrev pub image_refusal : List ℕ → Option Status
image_refusal input = option_map status.Image (image_fault input)

-- the same of an input that is to be a recording
unfoldable pub recording_refusal : List ℕ → Option Status
recording_refusal input = option_map status.Recording (recording_fault input)
