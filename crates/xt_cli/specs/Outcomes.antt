-- What `outcomes` writes of an image ('profile').
use Rattle.std.specs.Prelude.{Bool, true, false, List, ℕ}
use Rattle.xt_image.specs.declared.image.Image.{Image}
use Rattle.xt_command_line.specs.Options.{with_entry}
use Rattle.xt_command_line.specs.declared.outcomes.OutcomeOptions.{OutcomeOptions}
use Rattle.xt_judged.specs.OutcomesText.{IsAnswersText}
use Rattle.xt_moment_search.specs.Told.{IsMomentsTold}

-- by whether `--any-time` was given
abbrev pub OutcomesAreTold : (any_time : Bool) → OutcomeOptions → Image → List ℕ → Type 0
OutcomesAreTold true o image bytes =
    IsMomentsTold image (with_entry o.run image.entry) o.words o.shown bytes
OutcomesAreTold false o image bytes =
    IsAnswersText image (with_entry o.run image.entry) o.timed o.words o.states bytes

-- everything that can come out of an image in any order of the turns; with `--any-time` what was
-- found to come out of it in an order with moments
abbrev pub AreOutcomesTold : OutcomeOptions → Image → List ℕ → Type 0
AreOutcomesTold o image bytes = OutcomesAreTold o.any_time o image bytes
