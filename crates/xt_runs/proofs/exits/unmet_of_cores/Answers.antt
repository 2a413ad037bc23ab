use Rattle.std.proofs.Common.{List, ℕ, Option, ap₂, ◌∙◌}
use Rattle.std.specs.Option.{option_or}
use Rattle.xt_runs.proofs.exits.unmet_of_cores.Goals as goal

pub returns : goal.returns
returns c = c.first_line.ensures ∙ ap₂ (λ (a b : Option (List ℕ)). option_or a b) c.in_ok-first.ensures c.in_ok-second.ensures
