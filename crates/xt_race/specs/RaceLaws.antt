-- States laws that are proved; nothing that a reader must believe.
use Rattle.std.specs.Prelude.{◌≡◌, ℕ, Option, Some, List, map, slice_get}
use Rattle.xt_trace.specs.declared.run.Run.{Run}
use Rattle.xt_image.specs.declared.image.Image.{Image}
use Rattle.xt_core.specs.Runs.{IsRunOf}
use Rattle.xt_race.specs.declared.event.Event.{Event}
use Rattle.xt_race.specs.declared.race.Race.{Race}
use Rattle.xt_race.specs.Races.{IsFirstRace, events_of}

-- for each entry of a run of an image there is the turn that made it
abbrev pub EntriesHaveTurns : Type 0
EntriesHaveTurns =
    (image : Image) (r : Run) → IsRunOf image r
    → map (λ (e : Event). e.entry) (events_of image r) ≡ r.history

-- the record of that turn has the entry's access and reply
abbrev pub RecordsAreOfEntries : Type 0
RecordsAreOfEntries =
    (image : Image) (r : Run) → IsRunOf image r
    → (k : ℕ) (e : Event) → slice_get (events_of image r) k ≡ Some e
    → (e.step.access ≡ Some e.entry.access) × (e.step.reply ≡ e.entry.reply)

-- there is one first race at most
abbrev pub FirstRaceIsOne : Type 0
FirstRaceIsOne =
    (events : List Event) (x y : Option Race) → IsFirstRace events x → IsFirstRace events y
    → x ≡ y
