-- Carries a proof; nothing that a reader must believe.
-- The later entry of the first race, and then the earlier one.
use Rattle.std.specs.Prelude.{◌≡◌, ℕ, suc, ◌<◌, Bool, true, false, ◌&&◌, nat_le}
use Rattle.std.specs.Prelude.{Option, Some, None, List, slice_get}
use Rattle.xt_race.specs.declared.event.Event.{Event}
use Rattle.xt_race.specs.declared.race.Earlier.{Earlier}
use Rattle.xt_race.specs.declared.race.Later.{Later}
use Rattle.xt_race.specs.declared.race.Pair.{Pair}
use Rattle.xt_race.specs.Races.{IsFirst, IsFirstRace}
use Rattle.xt_race.specs.Clashes.{clash}
use Rattle.xt_race.specs.Found.{is_hit, acquired_count}

abbrev pub hit_in : List Event → ℕ → Option Event → Bool
hit_in events n None = false
hit_in events n (Some e) = is_hit events n e

-- entry n races with one before it
abbrev pub hit_at : List Event → ℕ → Bool
hit_at events n = hit_in events n (slice_get events n)

-- the first entry that does, and how many entries of the other core its core has acquired
pub record FirstHit (events : List Event) (l : Later) : Type 0 where
  pub at : slice_get events l.place ≡ Some l.event
  pub hit : is_hit events l.place l.event ≡ true
  pub acquired : l.seen ≡ acquired_count l.event.entry.core events (suc l.place)
  pub none_before : (n : ℕ) → n < l.place → hit_at events n ≡ false

abbrev pub IsLater : List Event → Option Later → Type 0
IsLater events None = (n : ℕ) → hit_at events n ≡ false
IsLater events (Some l) = FirstHit events l

abbrev pub fits_in : Later → ℕ → Option Event → Bool
fits_in l i None = false
fits_in l i (Some x) = nat_le l.seen i && clash x l.event

-- entry i conflicts with this one, whose core has not acquired so much
abbrev pub fits_at : List Event → Later → ℕ → Bool
fits_at events l i = fits_in l i (slice_get events i)

-- the first entry that does
pub record FirstFit (events : List Event) (l : Later) (x : Earlier) : Type 0 where
  pub at : slice_get events x.place ≡ Some x.event
  pub fit : fits_at events l x.place ≡ true
  pub none_before : (i : ℕ) → i < x.place → fits_at events l i ≡ false

abbrev pub IsEarlier : List Event → Later → Option Earlier → Type 0
IsEarlier events l None = (i : ℕ) → fits_at events l i ≡ false
IsEarlier events l (Some x) = FirstFit events l x

-- the first race, with its two entries
pub record FirstPair (events : List Event) (p : Pair) : Type 0 where
  pub race : IsFirst events p.race
  pub at_first : slice_get events p.race.first ≡ Some p.first
  pub at_second : slice_get events p.race.second ≡ Some p.second

abbrev pub IsPair : List Event → Option Pair → Type 0
IsPair events None = IsFirstRace events None
IsPair events (Some p) = FirstPair events p
