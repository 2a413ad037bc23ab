use Rattle.xt_asm.proofs.Serving.{served}
use Rattle.xt_asm.proofs.laws.open_pools_serve.Goals as goal

pub returns : goal.returns
returns c = served
