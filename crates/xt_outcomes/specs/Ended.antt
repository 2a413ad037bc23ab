-- How a search of all orders that keeps at most so many states ended ('profile').
use Rattle.std.specs.Prelude.{◌≡◌, ℕ, ◌<◌, Bool, true, false, List}
use Rattle.xt_trace.specs.Runs.{Opening}
use Rattle.xt_exec.specs.Chips.{processor}
use Rattle.xt_exec.specs.State.{State}
use Rattle.xt_search.specs.Worlds.{IsOrder}
use Rattle.xt_timeless.specs.TimeLaws.{core_of}
use Rattle.xt_timeless.specs.Time.{uses_time}
use Rattle.xt_outcomes.specs.Outcomes.{core_ended}
use Rattle.xt_outcomes.specs.Orders.{world_after}
use Rattle.xt_outcomes.specs.States.{LeadToMany}
use Rattle.xt_outcomes.specs.declared.answers.Ending.{Ending}
use Rattle.xt_outcomes.specs.declared.answers.Ending.TheVariants as ending

-- after some order the next turn of this core, which has not ended, is at this address, and uses
-- time
pub record TimeIsUsed (code : ℕ → ℕ) (timed : Bool) (o : Opening State) (core pc : ℕ)
    : Type 0 where
  pub order : List ℕ
  pub is_order : IsOrder order
  pub is_core : core < 2
  pub untimed : timed ≡ false
  pub going : core_ended timed (core_of core (world_after (processor code) timed o order)) ≡ false
  pub at : (core_of core (world_after (processor code) timed o order)).state.control.pc ≡ pc
  pub uses : uses_time code (core_of core (world_after (processor code) timed o order)).state ≡ true

-- `all` says nothing by itself; `some states` says that so many states were found
abbrev pub IsEnding : (ℕ → ℕ) → (timed : Bool) → Opening State → ℕ → Ending → Type 0
IsEnding code timed o most ending.All = Unit {0}
IsEnding code timed o most ending.States = LeadToMany code timed o most
IsEnding code timed o most (ending.Time core pc) = TimeIsUsed code timed o core pc
