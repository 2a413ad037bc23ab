-- The turns of a run as lines, in the order of its schedule ('profile').
--
-- Profile: the line of a turn is its trace line with what that lacks to be read without the image:
-- the instruction, and the windows where they moved. A turn that executed nothing has the
-- instruction at its program counter all the same.
-- Note: `told_at` takes the record with the number of the core's next step from the core's trace,
-- and a line would be empty where there is none. The law `positions_have_turns` says that each
-- position of the schedule has one.
-- Note: the windows before and after a turn are those of the run at its position and at the next;
-- no turn of one core changes those of the other.
use Rattle.std.specs.Prelude.{◌≡◌, ℕ, zero, suc, ◌+◌, ◌-◌, ◌==◌, ◌&&◌, if◌then◌else◌, Option, Some}
use Rattle.std.specs.Prelude.{None, Result, Ok, Err, List, [], ◌∷◌, ◌++◌, length, take, codes, min}
use Rattle.std.specs.Prelude.{slice_get}
use Rattle.std.specs.Option.{option_map_or}
use Rattle.std.specs.List.{concat}
use Rattle.std.specs.Fmt.{decimal}
use Rattle.xt_word.specs.Hexadecimal.{hex_digits}
use Rattle.xt_map.specs.Fetching.{Fetched, Fetches, Fails, SpellsNothing, fetch_at}
use Rattle.xt_trace.specs.declared.record.StepRecord.{StepRecord}
use Rattle.xt_trace.specs.declared.run.Run.{Run}
use Rattle.xt_trace.specs.Lines.{line_text}
use Rattle.xt_image.specs.declared.image.Image.{Image}
use Rattle.xt_disasm.specs.Listing.{insn_text}
use Rattle.xt_exec.specs.State.{State}
use Rattle.xt_core.specs.Positions.{schedule_in}
use Rattle.xt_core.specs.Runs.{code_of, records_of}
use Rattle.xt_replay.specs.Shown.{shown_at, state_in, step_in}
use Rattle.xt_events.specs.declared.filter.Filter.{Filter}
use Rattle.xt_events.specs.declared.told.TurnLine.{TurnLine}
use Rattle.xt_events.specs.declared.told.Window.{Window}
use Rattle.xt_events.specs.Filters.{everything, holds}

-- ---- the line of a turn

-- the trace line of a record without its newline, which is the last byte
abbrev pub bare_line : ℕ → ℕ → StepRecord → List ℕ
bare_line core step r = let text = line_text core step r in take (length text - 1) text

-- ` | ` and the instruction's text, where an address fetches one
abbrev pub fetched_text : Fetched → ℕ → List ℕ
fetched_text (Fetches i len) pc = codes " | " ++ insn_text i pc
fetched_text (Fails a) pc = []
fetched_text SpellsNothing pc = []

-- 16 bits in upper-case hexadecimal digits
unfoldable pub hex4 : ℕ → List ℕ
hex4 n = hex_digits 4 n

-- ` | wb W ws SSSS`, the windows after a turn, where it changed them
abbrev pub window_text : Window → Window → List ℕ
window_text before after =
    if before.base == after.base && before.start == after.start then []
    else codes " | wb " ++ decimal after.base ++ codes " ws " ++ hex4 after.start

-- the line of a turn with this record
unfoldable pub turn_text : (ℕ → ℕ) → TurnLine → StepRecord → List ℕ
turn_text code t r =
    bare_line t.core t.step r ++ fetched_text (fetch_at code r.pc) r.pc
    ++ window_text t.before t.after ++ codes "\n"

-- the line of a turn of which the filter holds, and nothing for another
abbrev pub kept_text : (ℕ → ℕ) → Filter → TurnLine → StepRecord → List ℕ
kept_text code f t r = if holds code f t r then turn_text code t r else []

abbrev pub told_text : (ℕ → ℕ) → Filter → TurnLine → List ℕ
told_text code f t = option_map_or (kept_text code f t) t.turn []

-- ---- the turn at a position

abbrev pub window_of : State → Window
window_of s = record { base = s.base; start = s.start }

-- What is told of a turn of a core at a position of the schedule: its number is how many turns the
-- core has made, its record is the one with this number in the core's trace, and the windows are
-- those of the run at this position and at the next, of which the program counter is too.
abbrev pub told_at : Image → Run → ℕ → ℕ → TurnLine
told_at image r p core =
    let here = shown_at image r p in
    let next = shown_at image r (p + 1) in
    record {
      core = core;
      step = step_in core here;
      turn = slice_get (records_of core image r).records (step_in core here);
      before = window_of (state_in core here);
      after = window_of (state_in core next);
      next = (state_in core next).control.pc;
    }

-- the line of the turn at a position, whose core the schedule names, if the filter holds of it
abbrev pub line_at : Filter → Image → Run → ℕ → List ℕ
line_at f image r p =
    option_map_or (λ core. told_text (code_of image) f (told_at image r p core))
    (slice_get (schedule_in r) p) []

-- ---- the lines of many turns

-- the lines of so many turns from a position on
abbrev pub lines_from : Filter → Image → Run → ℕ → ℕ → List (List ℕ)
lines_from f image r p zero = []
lines_from f image r p (suc n) = line_at f image r p ∷ lines_from f image r (suc p) n

-- the lines from a position on to before another, as far as the schedule goes
unfoldable pub filtered_between : Filter → Image → Run → ℕ → ℕ → List (List ℕ)
filtered_between f image r from to =
    lines_from f image r from (min to (length (schedule_in r)) - from)

-- the lines of all turns
abbrev pub lines_between : Image → Run → ℕ → ℕ → List (List ℕ)
lines_between image r from to = filtered_between everything image r from to

abbrev pub turns_text : Image → Run → ℕ → ℕ → List ℕ
turns_text image r from to = concat (lines_between image r from to)

-- ---- lines that are given one by one

pub record LinesState : Type 0 where
  pub image : Image
  pub run : Run
  pub filter : Filter
  -- the position of the next line, and the first position that has none
  pub position : ℕ
  pub end : ℕ

-- the lines that are left
abbrev pub lines_in : LinesState → List (List ℕ)
lines_in s = lines_from s.filter s.image s.run s.position (s.end - s.position)

-- the first of the lines that are left was given
abbrev pub Gives :
    {E : Type 0} → Result (Option (List ℕ)) E → LinesState → LinesState → Type 0
Gives (Ok None) old new = (lines_in old ≡ []) × (new ≡ old)
Gives (Ok (Some text)) old new = lines_in old ≡ text ∷ lines_in new
Gives (Err e) old new = Unit {0}
