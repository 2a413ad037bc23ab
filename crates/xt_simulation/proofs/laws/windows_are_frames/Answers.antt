use Rattle.xt_simulation.proofs.Images.{six_suffice, windows_are_frames, images_are_all_judged}
use Rattle.xt_simulation.proofs.laws.windows_are_frames.Goals as goal

pub returns-clause-six : goal.returns-clause-six
returns-clause-six c = six_suffice

pub returns-clause-frames : goal.returns-clause-frames
returns-clause-frames c = windows_are_frames

pub returns-clause-all : goal.returns-clause-all
returns-clause-all c = images_are_all_judged
