use Rattle.xt_core.proofs.Turning.{half_turn}
use Rattle.xt_core.proofs.turn.begin.Goals as goal

pub returns-in-Done : goal.returns-in-Done
returns-in-Done g c = c.local_turn.ensures _ _ c.head_of-head.ensures.value c.in-Done.ensures

pub returns-in-Bus : goal.returns-in-Bus
returns-in-Bus g c = half_turn _ _ _ _ _ c.in-Bus.ensures
