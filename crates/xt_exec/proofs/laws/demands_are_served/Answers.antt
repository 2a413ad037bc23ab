use Rattle.xt_exec.proofs.Served.{demand_served}
use Rattle.xt_exec.proofs.laws.demands_are_served.Goals as goal

pub returns : goal.returns
returns c = demand_served
