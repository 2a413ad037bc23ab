use Rattle.xt_core.proofs.Turning.{local_turn_of}
use Rattle.xt_core.proofs.turn.local_turn.Goals as goal

pub returns : goal.returns
returns g c = λ code s head is. local_turn_of code s c.args.effect _ _ c.args.head _ is c.tick.ensures head c.turn_record.ensures
