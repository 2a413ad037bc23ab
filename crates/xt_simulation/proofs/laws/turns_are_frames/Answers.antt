use Rattle.xt_simulation.proofs.Headline.{turns_are_frames, stretches_move_frames, nested_give_back}
use Rattle.xt_simulation.proofs.laws.turns_are_frames.Goals as goal

pub returns-clause-frames : goal.returns-clause-frames
returns-clause-frames c = turns_are_frames

pub returns-clause-stretches : goal.returns-clause-stretches
returns-clause-stretches c = stretches_move_frames

pub returns-clause-nested : goal.returns-clause-nested
returns-clause-nested c = nested_give_back
