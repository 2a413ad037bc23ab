use Rattle.xt_profile.proofs.Pushed.{all_pushed}
use Rattle.xt_profile.proofs.laws.frames_are_pushed.Goals as goal

pub returns : goal.returns
returns c code f xs none = all_pushed code f xs none
