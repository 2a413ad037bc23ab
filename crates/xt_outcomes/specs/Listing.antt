-- Outcomes, each with one order that leads there ('profile').
--
-- Profile: outcomes rise by the bytes sent, then by how core 0 ended, its program counter, how core
-- 1 ended, its program counter, and the words. A core that made all its turns comes before one that
-- stopped.
use Rattle.std.specs.Prelude.{◌≡◌, ℕ, Bool, true, List, [], ◌∷◌, map}
use Rattle.std.specs.List.{Contains}
use Rattle.std.specs.declared.cmp.Ordering.{Ordering}
use Rattle.std.specs.declared.cmp.Ordering.TheVariants.{Less}
use Rattle.std.specs.Ordering.{nat_cmp, ordering_then}
use Rattle.std.specs.Cmp.Lexicographic.{slice_cmp}
use Rattle.xt_trace.specs.declared.trace.Stop.{Stop}
use Rattle.xt_trace.specs.declared.trace.Stop.TheVariants as stop
use Rattle.xt_trace.specs.Chip.{Chip}
use Rattle.xt_trace.specs.Runs.{Opening}
use Rattle.xt_exec.specs.State.{State}
use Rattle.xt_search.specs.Worlds.{IsOrder}
use Rattle.xt_outcomes.specs.Orders.{world_after}
use Rattle.xt_outcomes.specs.Outcomes.{Outcome, have_ended, outcome_in}
use Rattle.xt_outcomes.specs.declared.listing.Found.{Found}

-- ---- the order of outcomes

abbrev pub rank : Stop → ℕ
rank stop.Turns = 0
rank stop.Break = 1

-- what decides where the bytes sent are the same
abbrev pub rest_of : Outcome → List ℕ
rest_of x = rank x.stop0 ∷ x.pc0 ∷ rank x.stop1 ∷ x.pc1 ∷ x.words

-- the first number that differs decides, and else the length
abbrev pub outcome_ordering : Outcome → Outcome → Ordering
outcome_ordering x y =
    ordering_then (slice_cmp nat_cmp x.sent y.sent) (slice_cmp nat_cmp (rest_of x) (rest_of y))

abbrev pub IsBefore : Outcome → List Found → Type 0
IsBefore x [] = Unit {0}
IsBefore x (y ∷ ys) = outcome_ordering x y.outcome ≡ Less

-- each is before the next one
abbrev pub IsRising : List Found → Type 0
IsRising [] = Unit {0}
IsRising (x ∷ xs) = IsBefore x.outcome xs × IsRising xs

-- ---- what is listed

-- the order is one of two cores, both have ended after it, and this is its outcome
pub record IsReal (P : Chip State) (timed : Bool) (o : Opening State) (addresses : List ℕ)
    (x : Found) : Type 0 where
  pub order : IsOrder x.order.items
  pub ended : have_ended timed (world_after P timed o x.order.items) ≡ true
  pub outcome : x.outcome ≡ outcome_in addresses (world_after P timed o x.order.items)

-- one of them has this outcome
abbrev pub Lists : List Found → Outcome → Type 0
Lists xs y = Contains (map (λ (x : Found). x.outcome) xs) y

-- the outcome of each order after which both cores have ended is listed
abbrev pub HasAllOutcomes :
    Chip State → (timed : Bool) → Opening State → List ℕ → List Found → Type 0
HasAllOutcomes P timed o addresses xs =
    (order : List ℕ) → IsOrder order → have_ended timed (world_after P timed o order) ≡ true
    → Lists xs (outcome_in addresses (world_after P timed o order))
