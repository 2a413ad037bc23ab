use Rattle.xt_profile.proofs.Pushing.{functions_length}
use Rattle.xt_profile.proofs.laws.functions_are_frames.Goals as goal

pub returns : goal.returns
returns c opening n past = functions_length opening n past
