-- Carries a proof; nothing that a reader must believe.
-- A list of outcomes once a world more was looked at.
use Rattle.std.specs.Prelude.{◌≡◌, ℕ, suc, Bool, true, if◌then◌else◌, List, [], ◌∷◌}
use Rattle.std.specs.List.{All}
use Rattle.std.specs.Ordering.{is_lt}
use Rattle.xt_trace.specs.Chip.{Chip}
use Rattle.xt_trace.specs.Runs.{Opening}
use Rattle.xt_exec.specs.State.{State}
use Rattle.xt_outcomes.specs.Endings.{has_ended, outcome_at}
use Rattle.xt_outcomes.specs.Listing.{IsReal, IsRising, Lists, outcome_ordering}
use Rattle.xt_outcomes.specs.Outcomes.{Outcome}
use Rattle.xt_outcomes.specs.Spots.{Spot}
use Rattle.xt_outcomes.specs.declared.listing.Found.{Found}

-- how many are before this outcome, up to the first that is not
abbrev pub place_in : List Found → Outcome → ℕ
place_in [] y = 0
place_in (x ∷ xs) y = if is_lt (outcome_ordering x.outcome y) then suc (place_in xs y) else 0

pub record IsAdded (P : Chip State) (timed : Bool) (o : Opening State) (addresses : List ℕ)
    (p : Spot State) (old new : List Found) : Type 0 where
  pub real : All (IsReal P timed o addresses) old → All (IsReal P timed o addresses) new
  pub rising : IsRising old → IsRising new
  pub kept : (z : Outcome) → Lists old z → Lists new z
  pub listed : has_ended p ≡ true → Lists new (outcome_at addresses p)
