-- Carries a proof; nothing that a reader must believe.
-- Which turns meet nothing of the other core: what a search takes for granted of the words of memory.
--
-- Each word has a place in a list, and words far apart may share one. A place tells which core comes
-- there, or that no core stores there; a search is right if each access that it met keeps to that.
use Rattle.std.specs.Prelude.{ℕ, zero, suc, ◌/◌, ◌%◌, Bool, true, false, ◌==◌, ◌&&◌, not}
use Rattle.std.specs.Prelude.{Option, Some, None, List, [], ◌∷◌, slice_get}
use Rattle.xt_map.specs.declared.access.Access.{Access}
use Rattle.xt_map.specs.declared.access.Kind.{Kind}
use Rattle.xt_map.specs.Touching.{is_load}
use Rattle.xt_exec.specs.Chips.{processor}
use Rattle.xt_exec.specs.State.{State}
use Rattle.xt_search.specs.Meetings.{run}
use Rattle.xt_outcomes.specs.Nexts.{next_bars, spot_next}
use Rattle.xt_outcomes.specs.SpotRaces.{next_of}
use Rattle.xt_outcomes.specs.Spots.{Side, Spot, side_of}
use Rattle.xt_outcomes.specs.declared.places.Place.{Place}
use Rattle.xt_outcomes.specs.declared.places.Place.TheVariants as place

-- the number of the place of an access; an access lies in one word
abbrev pub slot_of : Access → ℕ
slot_of a = a.addr / 4 % 131072

abbrev pub or_met : Option Place → Place
or_met None = place.Met
or_met (Some p) = p

abbrev pub place_of : List Place → Access → Place
place_of ps a = or_met (slice_get ps (slot_of a))

-- the access of the core touches nothing that the other core's accesses touch
abbrev pub is_own : ℕ → Place → Kind → Bool
is_own c place.Free k = false
is_own c place.Of0 k = c == 0
is_own c place.Of1 k = not (c == 0)
is_own c place.Read k = is_load k
is_own c place.Met k = false

-- the access of the core is one that the place tells of
abbrev pub may_come : ℕ → Place → Kind → Bool
may_come c place.Free k = true
may_come c place.Of0 k = c == 0
may_come c place.Of1 k = not (c == 0)
may_come c place.Read k = is_load k
may_come c place.Met k = true

abbrev pub is_own_access : List Place → ℕ → Option Access → Bool
is_own_access ps c None = true
is_own_access ps c (Some a) = is_own c (place_of ps a) a.kind

abbrev pub may_access : List Place → ℕ → Option Access → Bool
may_access ps c None = true
may_access ps c (Some a) = may_come c (place_of ps a) a.kind

-- the core has a turn left, which uses no time, fits, and meets nothing of the other core
abbrev pub is_local :
    (code : ℕ → ℕ) (timed : Bool) → List ℕ → List Place → ℕ → Side State → Bool
is_local code timed ms ps c s =
    not (s.left == 0)
    && (not (next_bars code timed ms s) && is_own_access ps c (next_of code s))

-- the places tell of the core's next turn
abbrev pub is_told : (code : ℕ → ℕ) → List Place → ℕ → Side State → Bool
is_told code ps c s = may_access ps c (next_of code s)

-- they do, and the turn uses no time and fits
abbrev pub is_allowed :
    (code : ℕ → ℕ) (timed : Bool) → List ℕ → List Place → ℕ → Side State → Bool
is_allowed code timed ms ps c s = is_told code ps c s && not (next_bars code timed ms s)

-- a turn of the core, and then its turns that meet nothing, at most so many
abbrev pub spot_run :
    (code : ℕ → ℕ) (timed : Bool) → List ℕ → List Place → ℕ → ℕ → Spot State → Spot State
spot_run code timed ms ps n c p =
    run (spot_next (processor code) timed ms) (λ d q. is_local code timed ms ps d (side_of d q)) n
    c p

-- so many turns of the core
abbrev pub turns_of : ℕ → ℕ → List ℕ
turns_of c zero = []
turns_of c (suc n) = c ∷ turns_of c n
