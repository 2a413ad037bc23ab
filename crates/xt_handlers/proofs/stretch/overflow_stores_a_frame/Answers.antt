use Rattle.xt_handlers.proofs.Whole.{stores_frames}
use Rattle.xt_handlers.proofs.stretch.overflow_stores_a_frame.Goals as goal

pub returns : goal.returns
returns c = stores_frames
