-- What `outcomes` prints ('profile').
use Rattle.std.specs.Prelude.{◌≡◌, ℕ, Bool, true, false, Option, Some, None, List, [], ◌∷◌, ◌++◌}
use Rattle.std.specs.Prelude.{codes, length, flat_map, option_map}
use Rattle.std.specs.List.{concat, zip}
use Rattle.std.specs.Fmt.{decimal}
use Rattle.xt_word.specs.Hexadecimal.{hex8}
use Rattle.xt_trace.specs.declared.options.Options.{Options}
use Rattle.xt_trace.specs.declared.trace.Stop.{Stop}
use Rattle.xt_image.specs.declared.image.Image.{Image}
use Rattle.xt_core.specs.Runs.{code_of}
use Rattle.xt_report.specs.Reports.{newline, stop_text, uart_lines}
use Rattle.xt_outcomes.specs.Answered.{AreAnswers}
use Rattle.xt_outcomes.specs.declared.answers.Answers.{Answers}
use Rattle.xt_outcomes.specs.declared.answers.Ending.{Ending}
use Rattle.xt_outcomes.specs.declared.answers.Ending.TheVariants as ending
use Rattle.xt_outcomes.specs.declared.listing.Found.{Found}
use Rattle.xt_outcomes.specs.declared.races.NextRace.{NextRace}
use Rattle.xt_judged.specs.OrderText.{order_text}
use Rattle.xt_judged.specs.RaceLines.{turn_lines}
use Rattle.xt_judged.specs.FrameLines.{frames_lines}
use Rattle.xt_judged.specs.OrderFrames.{AreFrames}
use Rattle.xt_judged.specs.declared.frames.JudgedOrders.{JudgedOrders}
use Rattle.xt_judged.specs.declared.frames.JudgedOrders.TheVariants as frames

-- ---- an outcome

-- `core C stop S pc ADDR`
abbrev pub core_line : ℕ → Stop → ℕ → List ℕ
core_line core stop pc = concat (
    codes "core " ∷ decimal core
    ∷ codes " stop " ∷ stop_text stop
    ∷ codes " pc " ∷ hex8 pc
    ∷ newline ∷ [])

-- `word ADDR VALUE`
abbrev pub word_line : ℕ × ℕ → List ℕ
word_line w = concat (codes "word " ∷ hex8 w.0 ∷ codes " " ∷ hex8 w.1 ∷ newline ∷ [])

-- `order LIST`
abbrev pub order_line : List ℕ → List ℕ
order_line order = concat (codes "order " ∷ order_text order ∷ newline ∷ [])

-- what was sent, how each core ended, the words at the addresses, and an order that leads there
unfoldable pub outcome_text : List ℕ → Found → List ℕ
outcome_text addresses x = concat (
    codes "outcome "
    ∷ uart_lines x.outcome.sent
    ∷ core_line 0 x.outcome.stop0 x.outcome.pc0
    ∷ core_line 1 x.outcome.stop1 x.outcome.pc1
    ∷ flat_map word_line (zip addresses x.outcome.words)
    ∷ order_line x.order.items
    ∷ [])

-- ---- what is said of all orders

-- that there is none, which is known only where every order was looked at
abbrev pub none_text : Bool → List ℕ
none_text true = codes "none"
none_text false = codes "unknown"

abbrev pub stuck_text : Bool → Option (List ℕ) → List ℕ
stuck_text whole None = none_text whole
stuck_text whole (Some order) = order_text order

abbrev pub stuck_line : Bool → Option (List ℕ) → List ℕ
stuck_line whole order = concat (codes "stuck " ∷ stuck_text whole order ∷ newline ∷ [])

-- whether every order was looked at
abbrev pub is_all : Ending → Bool
is_all ending.All = true
is_all _ = false

-- every order was looked at, and it is known what is judged of their runs, or not
abbrev pub all_text : JudgedOrders → List ℕ
all_text frames.Unknown = codes "some frames"
all_text _ = codes "all"

-- or as many worlds were kept as may be, or a turn uses time
abbrev pub end_line : JudgedOrders → Ending → List ℕ
end_line f ending.All = all_text f ++ newline
end_line f ending.States = codes "some states\n"
end_line f (ending.Time core pc) = concat (
    codes "some time core " ∷ decimal core
    ∷ codes " pc " ∷ hex8 pc
    ∷ newline ∷ [])

abbrev pub order_of : Option NextRace → Option (List ℕ)
order_of None = None
order_of (Some r) = Some r.order.items

abbrev pub race_line : Bool → Option NextRace → List ℕ
race_line whole race = concat (codes "race " ∷ stuck_text whole (order_of race) ∷ newline ∷ [])

abbrev pub count_line : ℕ → List ℕ
count_line n = concat (codes "outcomes " ∷ decimal n ∷ newline ∷ [])

-- ---- the text

-- of an image with these constant bytes
abbrev pub answers_text : (ℕ → ℕ) → List ℕ → Answers → JudgedOrders → List ℕ
answers_text code addresses a f = concat (
    flat_map (outcome_text addresses) a.found.items
    ∷ count_line (length a.found.items)
    ∷ stuck_line (is_all a.ended) (option_map (λ v. v.items) a.stuck)
    ∷ race_line (is_all a.ended) a.race
    ∷ turn_lines code a.race
    ∷ frames_lines f
    ∷ end_line f a.ended
    ∷ [])

-- this is the text of what is said of all orders, where each search keeps at most so many states
pub record IsAnswersText (image : Image) (o : Options) (timed : Bool) (addresses : List ℕ)
    (most : ℕ) (text : List ℕ) : Type 0 where
  pub answers : Answers
  pub are : AreAnswers image o timed addresses most answers
  pub frames : JudgedOrders
  pub are_frames : AreFrames image o timed frames
  pub text_is : text ≡ answers_text (code_of image) addresses answers frames
