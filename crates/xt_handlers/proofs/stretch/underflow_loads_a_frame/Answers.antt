use Rattle.xt_handlers.proofs.Whole.{loads_frames}
use Rattle.xt_handlers.proofs.stretch.underflow_loads_a_frame.Goals as goal

pub returns : goal.returns
returns c = loads_frames
