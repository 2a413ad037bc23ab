use Rattle.xt_handlers.proofs.Whole.{stores_frames, loads_frames}
use Rattle.xt_handlers.proofs.Joins.{overflow_frames, stores_words, underflow_frames, loads_words}
use Rattle.xt_handlers.proofs.Changed.{others_stay_above}
use Rattle.xt_handlers.proofs.joining.handlers_move_words.Goals as goal

pub returns-clause-overflow : goal.returns-clause-overflow
returns-clause-overflow c = λ lo hi n bytes start s below y f.
    let r = stores_frames n bytes s.some s.three below y start (overflow_frames lo hi n start s f) in
    record { end = r.end; is = r.is; holds = (r.holds.registers, stores_words lo hi n start r.end s f r.holds) }

pub returns-clause-underflow : goal.returns-clause-underflow
returns-clause-underflow c = λ lo hi n bytes start s below y f.
    let r = loads_frames n bytes s.some s.three below y start (underflow_frames lo hi n start s f) in
    record { end = r.end; is = r.is; holds = (r.holds.registers, loads_words lo hi n start r.end s f r.holds) }

pub returns-clause-above : goal.returns-clause-above
returns-clause-above c = others_stay_above
