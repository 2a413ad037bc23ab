use Rattle.xt_simulation.proofs.Stacked.{links_are_saved, spills_are_saved}
use Rattle.xt_simulation.proofs.Chains.{saved_in_areas, live_in_range}
use Rattle.xt_simulation.proofs.laws.spilled_frames_are_saved.Goals as goal

pub returns-clause-links : goal.returns-clause-links
returns-clause-links c = links_are_saved

pub returns-clause-spills : goal.returns-clause-spills
returns-clause-spills c = spills_are_saved

pub returns-clause-areas : goal.returns-clause-areas
returns-clause-areas c = saved_in_areas

pub returns-clause-range : goal.returns-clause-range
returns-clause-range c = live_in_range
