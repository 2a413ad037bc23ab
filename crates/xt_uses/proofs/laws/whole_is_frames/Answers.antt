use Rattle.xt_uses.proofs.WholeRuns.{whole_frames}
use Rattle.xt_uses.proofs.laws.whole_is_frames.Goals as goal

pub returns : goal.returns
returns c = whole_frames
