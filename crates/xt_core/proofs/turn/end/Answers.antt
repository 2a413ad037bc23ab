use Rattle.xt_core.proofs.Turning.{whole_turn_of}
use Rattle.xt_core.proofs.turn.end.Goals as goal

pub returns : goal.returns
returns g c = λ code awaits. whole_turn_of code _ _ _ _ _ _ _ _ c.finish-effect.ensures c.tick.ensures c.head_of-head.ensures.value c.turn_record.ensures awaits
