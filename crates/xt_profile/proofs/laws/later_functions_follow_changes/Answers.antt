use Rattle.xt_profile.proofs.PastCut.{follow_changes}
use Rattle.xt_profile.proofs.laws.later_functions_follow_changes.Goals as goal

pub returns : goal.returns
returns c opening pc phase change past = follow_changes opening pc phase change past
