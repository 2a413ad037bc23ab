-- Carries a proof; nothing that a reader must believe.
-- The outcome in what a search keeps of a world.
use Rattle.std.specs.Prelude.{ℕ, Bool, ◌==◌, ◌&&◌, List, map}
use Rattle.xt_map.specs.Serving.{number_at}
use Rattle.xt_trace.specs.Traces.{stop_where}
use Rattle.xt_exec.specs.State.{State}
use Rattle.xt_outcomes.specs.Outcomes.{Outcome}
use Rattle.xt_outcomes.specs.Spots.{Spot}

-- `outcome_in` of the world
abbrev pub outcome_at : List ℕ → Spot State → Outcome
outcome_at addresses p = record {
  sent = p.memory.sent;
  stop0 = stop_where p.side0.stopped;
  pc0 = p.side0.state.control.pc;
  stop1 = stop_where p.side1.stopped;
  pc1 = p.side1.state.control.pc;
  words = map (λ a. number_at p.memory a 4) addresses;
}

-- `have_ended` of the world
abbrev pub has_ended : {S : Type 0} → Spot S → Bool
has_ended p = p.side0.left == 0 && p.side1.left == 0
