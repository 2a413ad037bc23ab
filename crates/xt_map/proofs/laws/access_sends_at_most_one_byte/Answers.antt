use Rattle.xt_map.proofs.Sent.{access_sends}
use Rattle.xt_map.proofs.laws.access_sends_at_most_one_byte.Goals as goal

pub returns : goal.returns
returns c = access_sends
