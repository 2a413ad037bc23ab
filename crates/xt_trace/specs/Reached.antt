-- Carries a proof; nothing that a reader must believe.
-- What holds of every world that turns lead to ('profile').
use Rattle.std.specs.Prelude.{◌≡◌}
use Rattle.xt_map.specs.History.{memory_after, IsLegal, IsOfCores}
use Rattle.xt_trace.specs.Chip.{Chip}
use Rattle.xt_map.specs.History.{calls_of}
use Rattle.xt_trace.specs.Worlds.{World}
use Rattle.xt_trace.specs.Driven.{Drove}
use Rattle.xt_trace.specs.Runs.{Opening, world_at_start}

pub record Reached {S : Type 0} (P : Chip S) (o : Opening S) (w : World S) : Type 0 where
  pub legal : IsLegal o.memory w.line.history
  pub memory : w.line.memory ≡ memory_after o.memory w.line.history
  pub cores : IsOfCores w.line.history
  pub zero : Drove P (world_at_start o).core0 w.core0 (calls_of 0 w.line.history)
  pub one : Drove P (world_at_start o).core1 w.core1 (calls_of 1 w.line.history)
