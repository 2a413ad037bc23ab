use Rattle.std.proofs.Common.{sym}
use Rattle.xt_frames.proofs.Newest.{nobody, calls_of_caller}
use Rattle.xt_frames.proofs.callers.calls_in.Goals as goal

pub returns : goal.returns
returns c = sym (calls_of_caller c.args.callers.now c.args.j nobody c.requires)
