use Rattle.xt_frames.proofs.FirstBreach.{walk_finds}
use Rattle.xt_frames.proofs.laws.verdict_is_first_breach.Goals as goal

pub returns : goal.returns
returns c = walk_finds
