use Rattle.xt_simulation.proofs.Headline.{opens_alike}
use Rattle.xt_simulation.proofs.Positions.{walks_are_frames, runs_are_frames, stretches_of_runs}
use Rattle.xt_simulation.proofs.OneWalk.{breaches_stay}
use Rattle.xt_simulation.proofs.laws.runs_are_frames.Goals as goal

pub returns-clause-opening : goal.returns-clause-opening
returns-clause-opening c = opens_alike

pub returns-clause-walks : goal.returns-clause-walks
returns-clause-walks c = walks_are_frames

pub returns-clause-runs : goal.returns-clause-runs
returns-clause-runs c = runs_are_frames

pub returns-clause-breaches : goal.returns-clause-breaches
returns-clause-breaches c = breaches_stay

pub returns-clause-stretches : goal.returns-clause-stretches
returns-clause-stretches c = stretches_of_runs
