use Rattle.xt_uses.proofs.LaterRuns.{use_run_frames}
use Rattle.xt_uses.proofs.laws.use_run_is_frame_run.Goals as goal

pub returns : goal.returns
returns c = use_run_frames
