use Rattle.std.proofs.Common.{ap}
use Rattle.std.specs.List.{list_any}
use Rattle.std.specs.Str.{bytes_eq}
use Rattle.xt_layout.proofs.fault.fault_of.Goals as goal

pub first_fault-requires-clause-no_names : goal.first_fault-requires-clause-no_names
first_fault-requires-clause-no_names c = λ q. ap (list_any (λ k. bytes_eq q k.now)) c.new.ensures.empty
