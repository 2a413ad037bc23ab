-- The text of a race by its two entries.
use Rattle.std.proofs.Common.{◌≡◌, ℕ, Option, Some, None, List, ◌++◌, sym, ap₂, ◌∙◌}
use Rattle.std.specs.Prelude.{codes}
use Rattle.std.specs.Fmt.{decimal}
use Rattle.xt_race.specs.declared.event.Event.{Event}
use Rattle.xt_race.specs.declared.race.Pair.{Pair}
use Rattle.xt_race.specs.Firsts.{FirstPair, IsPair}
use Rattle.xt_race.specs.RaceTexts.{IsRaceText, event_line, line_at, race_text}

pub pair_printed : (es : List Event) (p : Pair) (text : List ℕ) → FirstPair es p
    → text ≡ codes "race " ++ decimal p.race.first ++ codes " " ++ decimal p.race.second ++ codes "\n" ++ event_line p.first ++ event_line p.second
    → text ≡ race_text es (Some p.race)
pair_printed es p text h is =
    is ∙ sym (ap₂ (λ (x y : Option Event). codes "race " ++ decimal p.race.first ++ codes " " ++ decimal p.race.second ++ codes "\n" ++ line_at x ++ line_at y) h.at_first h.at_second)

-- the text that is printed of a pair, and of none
abbrev pub IsPrinted : Pair → List ℕ → Type 0
IsPrinted p text = text ≡ codes "race " ++ decimal p.race.first ++ codes " " ++ decimal p.race.second ++ codes "\n" ++ event_line p.first ++ event_line p.second

abbrev pub IsNone : List ℕ → Type 0
IsNone text = text ≡ codes "race none\n"

pub pair_told : (es : List Event) (p : Pair) → FirstPair es p → (text : List ℕ) → IsPrinted p text → IsRaceText es text
pair_told es p h text is = record { found = Some p.race; is_first = h.race; text_is = pair_printed es p text h is }

pub none_told : (es : List Event) → IsPair es None → (text : List ℕ) → IsNone text → IsRaceText es text
none_told es h text is = record { found = None; is_first = h; text_is = is }
