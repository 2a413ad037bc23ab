-- What `outcomes --any-time` prints of an image ('profile').
--
-- Note: each outcome is that of its order with moments, with some numbers for CCOUNT. If the last
-- line is `all`, no order with moments has another outcome, whatever CCOUNT is at each turn. After
-- `stuck none` each order can be continued until both cores have stopped, and no order that begins
-- with the order of a line `stuck` ends so. `stuck unknown` and `all` never stand in one text.
use Rattle.std.specs.Prelude.{◌≡◌, ◌++◌, ℕ, Bool, true, false, List, map}
use Rattle.std.specs.List.{All}
use Rattle.xt_image.specs.declared.image.Image.{Image}
use Rattle.xt_trace.specs.declared.options.Options.{Options}
use Rattle.xt_trace.specs.Runs.{Opening}
use Rattle.xt_exec.specs.State.{State}
use Rattle.xt_core.specs.Runs.{code_of, opening_of}
use Rattle.xt_moments.specs.Moments.{IsMove}
use Rattle.xt_moments.specs.Outcomes.{CanAllEnd, EndsIn, HasAllOutcomes, IsStuck}
use Rattle.xt_moments.specs.Outcomes.{MomentOutcome}
use Rattle.xt_command_line.specs.declared.outcomes.Shown.{Shown}
use Rattle.xt_moment_search.specs.MomentLines.{moments_text}
use Rattle.xt_moment_search.specs.ShownTurns.{order_lines, shown_order}
use Rattle.xt_moment_search.specs.declared.answers.Answers.{Answers}
use Rattle.xt_moment_search.specs.declared.answers.Ending.TheVariants as ending
use Rattle.xt_moment_search.specs.declared.found.Found.{Found}
use Rattle.xt_moment_search.specs.declared.stuck.Stuck.{Stuck}
use Rattle.xt_moment_search.specs.declared.stuck.Stuck.TheVariants as stuck

-- its order is one with moments, and ends with both cores stopped in its outcome
pub record IsReal (code : ℕ → ℕ) (o : Opening State) (addresses : List ℕ) (x : Found) : Type 0 where
  pub moves : All IsMove x.order.items
  pub counts : ℕ → ℕ
  pub ends : EndsIn code o addresses counts x.order.items x.outcome

abbrev pub AreReal : Image → Options → List ℕ → List Found → Type 0
AreReal image o addresses xs = All (IsReal (code_of image) (opening_of image o) addresses) xs

abbrev pub outcomes_in : List Found → List MomentOutcome
outcomes_in xs = map (λ (x : Found). x.outcome) xs

-- what is said of orders that no order continues until both cores have stopped
abbrev pub IsStuckOf : (ℕ → ℕ) → Opening State → Stuck → Type 0
IsStuckOf code o stuck.Never = CanAllEnd code o
IsStuckOf code o (stuck.Order order) = All IsMove order.items × IsStuck code o order.items
IsStuckOf code o stuck.Unknown = Unit {0}

-- it is known whether each order can be continued so
abbrev pub is_known : Stuck → Bool
is_known stuck.Never = true
is_known (stuck.Order order) = true
is_known stuck.Unknown = false

-- this is the text of outcomes that are real, and the lines of the turns of the order that is shown
pub record IsMomentsTold (image : Image) (o : Options) (addresses : List ℕ) (shown : Shown)
    (text : List ℕ) : Type 0 where
  pub answers : Answers
  pub real : AreReal image o addresses answers.found.items
  pub stuck_is : IsStuckOf (code_of image) (opening_of image o) answers.stuck
  pub complete : answers.ended ≡ ending.All
      → HasAllOutcomes (code_of image) (opening_of image o) addresses
      (outcomes_in answers.found.items)
  pub known : answers.ended ≡ ending.All → is_known answers.stuck ≡ true
  pub text_is : text
      ≡ moments_text addresses answers ++ order_lines image o (shown_order shown answers)
