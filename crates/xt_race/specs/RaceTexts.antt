-- What is printed of the first race ('profile').
use Rattle.std.specs.Prelude.{◌≡◌, Option, Some, None, List, ℕ, [], ◌++◌, codes, slice_get}
use Rattle.std.specs.Fmt.{decimal}
use Rattle.xt_trace.specs.Lines.{line_text}
use Rattle.xt_race.specs.declared.event.Event.{Event}
use Rattle.xt_race.specs.declared.race.Race.{Race}
use Rattle.xt_race.specs.Races.{IsFirstRace}

-- the trace line of an entry's record
abbrev pub event_line : Event → List ℕ
event_line e = line_text e.entry.core e.turn e.step

abbrev pub line_at : Option Event → List ℕ
line_at None = []
line_at (Some e) = event_line e

-- `race none`; or `race I J`, and the trace lines of the records of entries I and J
abbrev pub race_text : List Event → Option Race → List ℕ
race_text events None = codes "race none\n"
race_text events (Some r) =
    codes "race " ++ decimal r.first ++ codes " " ++ decimal r.second ++ codes "\n"
    ++ line_at (slice_get events r.first) ++ line_at (slice_get events r.second)

-- this is the text of the first race, or of none
pub record IsRaceText (events : List Event) (text : List ℕ) : Type 0 where
  pub found : Option Race
  pub is_first : IsFirstRace events found
  pub text_is : text ≡ race_text events found
