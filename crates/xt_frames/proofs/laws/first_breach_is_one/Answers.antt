use Rattle.xt_frames.proofs.OneBreach.{is_one}
use Rattle.xt_frames.proofs.laws.first_breach_is_one.Goals as goal

pub returns : goal.returns
returns c = is_one
