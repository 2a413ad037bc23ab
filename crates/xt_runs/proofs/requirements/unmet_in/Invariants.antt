-- What the requirements that are left say is what all say.
use Rattle.std.proofs.Common.{ℕ, List, Option, drop}
use Rattle.xt_runs.specs.Requirements.{IsUnmetIn}
use Rattle.xt_runs.proofs.requirements.unmet_in.Given as goal

abbrev pub invariant-loop-requirement : goal.invariant-loop-requirement
invariant-loop-requirement l = (line : Option (List ℕ)) → IsUnmetIn l.secrets (drop l.requirement-index l.list) l.image l.run line → IsUnmetIn l.secrets l.list l.image l.run line
