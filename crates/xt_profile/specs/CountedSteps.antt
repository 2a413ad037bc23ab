-- Carries a proof; nothing that a reader must believe.
-- What is counted of a core so far.
use Rattle.std.specs.Prelude.{◌≡◌, ℕ, if◌then◌else◌, List, [], ◌∷◌, ◌++◌, length, map, replicate}
use Rattle.std.specs.Ordering.{match_ordering}
use Rattle.std.specs.Global.{Vec}
use Rattle.xt_profile.specs.declared.profiles.CoreProfile.{CoreProfile}
use Rattle.xt_profile.specs.declared.profiles.ProfileLine.{ProfileLine}
use Rattle.xt_profile.specs.declared.tally.Tally.{Tally}
use Rattle.xt_profile.specs.Steps.{Step, frames_standing}
use Rattle.xt_profile.specs.Keys.{Start, functions, handlers, keys, shown_key}
use Rattle.xt_profile.specs.Counts.{compare, is_same, lines}
use Rattle.xt_profile.specs.Profiled.{turns_past}

-- an entry of the map as a line
abbrev pub line_of_entry : Vec ℕ × ℕ → ProfileLine
line_of_entry e = record { key = e.0.items; count = e.1 }

-- the count of a key in these lines
abbrev pub count_in : List ℕ → List ProfileLine → ℕ
count_in k [] = 0
count_in k (l ∷ ls) = if is_same k l.key then l.count else count_in k ls

-- the lines with this count of a key
abbrev pub puts : List ℕ → ℕ → List ProfileLine → List ProfileLine
puts k v [] = record { key = k; count = v } ∷ []
puts k v (l ∷ ls) =
    match_ordering
    (compare k l.key)
    (record { key = k; count = v } ∷ l ∷ ls)
    (record { key = l.key; count = v } ∷ ls)
    (l ∷ puts k v ls)

-- where a core opened, and the steps that it made before those that are counted
pub record Origin : Type 0 where
  pub start : Start
  pub first : List Step

abbrev pub origin : ℕ → ℕ → List Step → Origin
origin pc depth first = record { start = record { pc = pc; depth = depth }; first = first }

abbrev pub from_here : Origin → List Step → Origin
from_here o past = record { start = o.start; first = past }

-- of all steps the later ones are counted: the last ones with a key, as many as are in a row, stand
-- apart
pub record AreCounted (o : Origin) (past : List Step) (t : Tally) : Type 0 where
  pub later : List Step
  pub told : List (List ℕ)
  pub past_is : past ≡ later ++ o.first
  pub depth_is : t.depth ≡ o.start.depth
  pub keys_are : keys o.start past
      ≡ replicate t.row (shown_key o.start.depth t.functions.items)
      ++ (told ++ keys o.start o.first)
  pub lines_are : map line_of_entry t.counts.entries ≡ lines told
  pub handlers_are : t.handlers ≡ handlers later
  pub steps_are : t.steps ≡ length later

pub record IsTally (o : Origin) (past : List Step) (t : Tally) : Type 0 where
  pub functions_are : t.functions.items ≡ functions o.start.pc (frames_standing past) past
  pub counted : AreCounted o past t

-- the profile of a core, where these steps are counted, and so many turns come after them
abbrev pub profile_of_steps : Origin → List Step → ℕ → CoreProfile
profile_of_steps o past after =
    let t = turns_past o.start o.first past in
    record { lines = t.lines; handlers = t.handlers; after = after }
