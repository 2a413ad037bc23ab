-- What `outcomes` answers of an image, where at most so many states are kept ('profile').
--
-- Note: `ended` says whether every order was looked at. Where it is not `All`, outcomes and a race
-- that were found are real all the same, and nothing is said of those that were not.
use Rattle.std.specs.Prelude.{◌≡◌, ℕ, Bool, List, IfSome, IfNone}
use Rattle.std.specs.List.{All as Each}
use Rattle.xt_image.specs.declared.image.Image.{Image}
use Rattle.xt_trace.specs.declared.options.Options.{Options}
use Rattle.xt_trace.specs.Runs.{Opening}
use Rattle.xt_exec.specs.State.{State}
use Rattle.xt_exec.specs.Chips.{processor}
use Rattle.xt_core.specs.Runs.{code_of, opening_of}
use Rattle.xt_search.specs.Worlds.{IsOrder}
use Rattle.xt_outcomes.specs.Ended.{IsEnding}
use Rattle.xt_outcomes.specs.Listing.{HasAllOutcomes, IsReal, IsRising}
use Rattle.xt_outcomes.specs.Outcomes.{CanAllEnd, IsStuck}
use Rattle.xt_outcomes.specs.Racing.{HasNoRace, IsRaceAfter}
use Rattle.xt_outcomes.specs.declared.answers.Answers.{Answers}
use Rattle.xt_outcomes.specs.declared.answers.Ending.TheVariants.{All}

-- by the code, whether turns take time, and how both cores open
pub record AreAnswersOf (code : ℕ → ℕ) (timed : Bool) (opening : Opening State)
    (addresses : List ℕ) (most : ℕ) (a : Answers) : Type 0 where
  -- the search ended early only for the reason that is told
  pub ending : IsEnding code timed opening most a.ended
  -- each outcome is that of its order, and they rise
  pub real : Each (IsReal (processor code) timed opening addresses) a.found.items
  pub rising : IsRising a.found.items
  -- every order's outcome is listed
  pub all : a.ended ≡ All
      → HasAllOutcomes (processor code) timed opening addresses a.found.items
  -- after the order the cores never both end
  pub order : IfSome a.stuck (λ v. IsOrder v.items)
  pub stuck : IfSome a.stuck (λ v. IsStuck (processor code) timed opening v.items)
  pub never_stuck : a.ended ≡ All → IfNone a.stuck (CanAllEnd (processor code) timed opening)
  -- the next turns after the order conflict
  pub race : IfSome a.race (λ r. IsRaceAfter code timed opening r)
  pub no_race : a.ended ≡ All → IfNone a.race (HasNoRace code timed opening)

abbrev pub AreAnswers : Image → Options → (timed : Bool) → List ℕ → ℕ → Answers → Type 0
AreAnswers image o timed = AreAnswersOf (code_of image) timed (opening_of image o)
