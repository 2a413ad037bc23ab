-- What the words of `dis` say ('profile').
--
-- Profile: what `dis` takes stands in `Listings`: the options of `--flow` stand with it alone.
use Rattle.std.specs.Prelude.{◌≡◌, ℕ, ◌%◌, Bool, true, false, ◌==◌, List, [], ◌∷◌, Option, Some}
use Rattle.std.specs.Prelude.{None, Result, Ok, Err, codes, fold}
use Rattle.clap.specs.Words.{App, Text, first_of, new_app}
use Rattle.xt_command_line.specs.MeaningAnswers.{and_then, answer_with}
use Rattle.xt_command_line.specs.Arguments.{IsVecbase}
use Rattle.xt_command_line.specs.Numbers.{number_of}
use Rattle.xt_command_line.specs.Options.{first_broken, given_number_of, is_entry, is_set}
use Rattle.xt_command_line.specs.Options.{said_or, unless_broken, with_flag, with_option}
use Rattle.xt_command_line.specs.Roots.{roots_of}
use Rattle.xt_command_line.specs.Simple.{matched_by}
use Rattle.xt_command_line.specs.declared.command.Listing.{Listing}
use Rattle.xt_command_line.specs.declared.command.Openings.{Openings}
use Rattle.xt_command_line.specs.declared.command.Refusal.{Refusal}
use Rattle.xt_command_line.specs.declared.command.Refusal.TheVariants as refusal
use Rattle.xt_command_line.specs.declared.command.Way.{Way}
use Rattle.xt_command_line.specs.declared.command.Way.TheVariants as way

-- dis [--flow] [--data] [--vecbase N] [--entry1 N] [--roots LIST]
abbrev pub dis_app : App
dis_app =
    fold with_flag
    (fold with_option (new_app (codes "dis"))
    (codes "vecbase" ∷ codes "entry1" ∷ codes "roots" ∷ []))
    (codes "flow" ∷ codes "data" ∷ [])

-- the openings of these numbers, where each is there
abbrev pub openings_from : Option ℕ → Option (Option ℕ) → Option (List ℕ) → Option Openings
openings_from (Some vecbase) (Some entry1) (Some roots) =
    Some (record { vecbase = vecbase; entry1 = entry1; roots = roots })
openings_from _ _ _ = None

-- the openings that the texts of `--vecbase` and `--entry1` say, each with its default, with these
-- roots, or none where a text is no number or there are no roots
abbrev pub openings_with : Option Text → Option Text → Option (List ℕ) → Option Openings
openings_with vecbase entry1 roots =
    openings_from (said_or number_of 0x40080000 vecbase) (said_or given_number_of None entry1) roots

-- the rules by their numbers, and whether the openings keep them
abbrev pub opening_limits : Openings → List (ℕ × Bool)
opening_limits o = (6, is_entry o.entry1) ∷ (7, o.vecbase % 1024 == 0) ∷ []

abbrev pub judged_openings : Option Openings → Result Openings Refusal
judged_openings None = Err (refusal.Usage 4)
judged_openings (Some o) = unless_broken (first_broken (opening_limits o)) o

-- which bytes are instructions, by whether `--flow` was given and by the texts of `--vecbase`,
-- `--entry1` and `--roots`, which stand with `--flow` alone; without the last there are no roots
abbrev pub way_in : Bool → Option Text → Option Text → Option Text → Result Way Refusal
way_in true vecbase entry1 roots =
    answer_with way.Flow
    (judged_openings (openings_with vecbase entry1 (said_or roots_of [] roots)))
way_in false None None None = Ok way.Sweep
way_in false _ _ _ = Err (refusal.Usage 3)

-- that with whether `--data` was given
abbrev pub listing_with : Bool → Way → Listing
listing_with as_text w = record { way = w; as_text = as_text }

-- the listing that the words of `dis` say, or the first rule of usage that they break
abbrev pub listing_of : List Text → Result Listing Refusal
listing_of words = and_then (matched_by dis_app words) (λ rows.
    answer_with (listing_with (is_set (first_of (codes "data") rows)))
    (way_in
    (is_set (first_of (codes "flow") rows))
    (first_of (codes "vecbase") rows)
    (first_of (codes "entry1") rows)
    (first_of (codes "roots") rows)))

-- openings with a VECBASE, at which core 1 can begin where they say that it does
abbrev pub AreOpenings : Openings → Type 0
AreOpenings o = IsVecbase o.vecbase × (is_entry o.entry1 ≡ true)

-- what control reaches from valid openings on
abbrev pub IsWay : Way → Type 0
IsWay way.Sweep = Unit {0}
IsWay (way.Flow openings) = AreOpenings openings

abbrev pub IsListing : Listing → Type 0
IsListing l = IsWay l.way
