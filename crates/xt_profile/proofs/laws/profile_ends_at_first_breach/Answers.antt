use Rattle.xt_profile.proofs.Cutting.{ends_at_first}
use Rattle.xt_profile.proofs.laws.profile_ends_at_first_breach.Goals as goal

pub returns : goal.returns
returns c = ends_at_first
