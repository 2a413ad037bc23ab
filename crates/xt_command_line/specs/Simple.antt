-- What a simple command of clap matches on words. The first word stands where clap expects the
-- program's name.
-- Source: the definition of a simple command that the crate clap has.
use Rattle.std.specs.Prelude.{◌≡◌, List, [], ◌∷◌, Option, Some, None, Result, Ok, Err, ok_or}
use Rattle.clap.specs.Words.{App, Row, Text, fault_of, matches_of}
use Rattle.clap.specs.Kinds.{Kinds}
use Rattle.xt_command_line.specs.declared.command.Refusal.{Refusal}
use Rattle.xt_command_line.specs.declared.command.Refusal.TheVariants as refusal

-- the rows, where there is no fault
abbrev pub rows_without : Kinds → List Row → Option (List Row)
rows_without [] rows = Some rows
rows_without (kind ∷ kinds) rows = None

-- what a simple command matches on the words, or nothing where it gives no matches
unfoldable pub rows_by : App → List Text → Option (List Row)
rows_by app words = rows_without (fault_of app words) (matches_of app words)

-- that, or the rule of usage that words break which do not match
abbrev pub matched_by : App → List Text → Result (List Row) Refusal
matched_by app words = ok_or (rows_by app words) (refusal.Usage 3)

-- a refusal says that there are no matches, unless memory ran out
abbrev pub Refuses : Refusal → Option (List Row) → Type 0
Refuses refusal.Memory rows = Unit {0}
Refuses r rows = (r ≡ refusal.Usage 3) × (rows ≡ None)

-- what was matched are the rows
abbrev pub Matches : Result (List Row) Refusal → Option (List Row) → Type 0
Matches (Ok matched) rows = rows ≡ Some matched
Matches (Err r) rows = Refuses r rows
