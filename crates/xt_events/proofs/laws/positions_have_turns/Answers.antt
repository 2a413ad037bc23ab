use Rattle.xt_events.proofs.Turned.{each_has_turn}
use Rattle.xt_events.proofs.laws.positions_have_turns.Goals as goal

pub returns : goal.returns
returns c = each_has_turn
