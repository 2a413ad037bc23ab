use Rattle.std.proofs.Common.{drop, take, refl}
use Rattle.xt_frames.specs.Walked.{opening_walked}
use Rattle.xt_discipline.specs.Phases.{phases_of}
use Rattle.xt_core.specs.Runs.{code_of, entry_of}
use Rattle.xt_profile.specs.Profiled.{records}
use Rattle.xt_profile.proofs.Pushed.{all_later_pushed}
use Rattle.xt_profile.proofs.laws.later_functions_are_pushed.Goals as goal

pub returns : goal.returns
returns c core n image r =
    all_later_pushed (code_of image) (opening_walked core (entry_of core image r.options) r.options).state (take n (records core image r)) (drop n (records core image r)) (drop n (phases_of (code_of image) (records core image r))) refl
