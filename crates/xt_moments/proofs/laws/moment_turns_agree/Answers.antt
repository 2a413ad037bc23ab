use Rattle.xt_moments.proofs.Moments.{moment_turns_agree}
use Rattle.xt_moments.proofs.laws.moment_turns_agree.Goals as goal

pub returns : goal.returns
returns c = moment_turns_agree
