-- Carries a proof; nothing that a reader must believe.
-- What is left of the order of a run's turns.
use Rattle.std.specs.Prelude.{◌≡◌, ℕ, suc, ◌-◌, ◌<◌, ◌≤◌, List, [], ◌∷◌, ◌++◌, length, replicate}
use Rattle.std.specs.Prelude.{slice_index}
use Rattle.xt_map.specs.declared.access.Entry.{Entry}
use Rattle.xt_map.specs.History.{IsOfCores, calls_of}
use Rattle.xt_trace.specs.Schedule.{cores_of, schedule_from}
use Rattle.xt_trace.specs.Short.{IsRising}
use Rattle.xt_discipline.specs.declared.order.ScheduleIter.{ScheduleIter}
use Rattle.xt_discipline.specs.declared.order.Stretch.{Stretch}

-- the places that are left rise to below the count, and are as many as the entries of the core
pub record Comes (entries : List Entry) (core : ℕ) (s : Stretch) : Type 0 where
  pub within : s.past ≤ s.count
  pub rise : IsRising s.past s.places.now s.count
  pub calls : length (calls_of core entries) ≡ length s.places.now

pub record AreLeft (entries : List Entry) (z w : Stretch) : Type 0 where
  pub cores : IsOfCores entries
  pub zero : Comes entries 0 z
  pub one : Comes entries 1 w

abbrev pub IsOrder : ScheduleIter → Type 0
IsOrder o = AreLeft o.entries.now o.zero o.one

-- the turns after those that come first, and all
abbrev pub turns_behind : ScheduleIter → List ℕ
turns_behind o = schedule_from (cores_of o.entries.now)
    o.zero.past o.zero.places.now o.zero.count o.one.past o.one.places.now o.one.count

abbrev pub turns_left : ScheduleIter → List ℕ
turns_left o = replicate o.times o.core ++ turns_behind o

-- an access comes
pub record HasAccess (s : Stretch) : Type 0 where
  pub more : 0 < length s.places.now
  pub low : s.past ≤ slice_index s.places.now 0
  pub high : slice_index s.places.now 0 < s.count

-- so many turns are passed, up to and with the next access
pub record IsUpto (old new : Stretch) (times : ℕ) : Type 0 where
  pub split : old.places.now ≡ slice_index old.places.now 0 ∷ new.places.now
  pub past : new.past ≡ suc (slice_index old.places.now 0)
  pub count : new.count ≡ old.count
  pub times_are : times ≡ new.past - old.past
  pub some : 0 < times

-- so many turns of a core are passed
pub record IsPiece (old new : ScheduleIter) (core times : ℕ) : Type 0 where
  pub order : IsOrder new
  pub turns : turns_behind old ≡ replicate times core ++ turns_behind new
  pub none : times ≡ 0 → turns_behind old ≡ []
