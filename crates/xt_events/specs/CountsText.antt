-- What `counts` prints ('profile').
use Rattle.std.specs.Prelude.{◌≡◌, ℕ, Option, Some, None, List, ◌++◌, codes}
use Rattle.std.specs.Fmt.{decimal}
use Rattle.std.specs.List.{flat_map}
use Rattle.xt_word.specs.Hexadecimal.{hex8}
use Rattle.xt_trace.specs.declared.run.Run.{Run}
use Rattle.xt_image.specs.declared.image.Image.{Image}
use Rattle.xt_core.specs.Runs.{code_of, records_of}
use Rattle.xt_events.specs.declared.tally.Tally.{Tally}
use Rattle.xt_events.specs.declared.turn.Turn.{Turn}
use Rattle.xt_events.specs.Counts.{AreCounts, turns}

-- how often a branch was taken; `-` where the instruction is none
abbrev pub taken_text : Option ℕ → ℕ → List ℕ
taken_text None taken = codes "-"
taken_text (Some target) taken = decimal taken

-- `core C ADDR EXECUTED RAISED TAKEN`
unfoldable pub line_text : ℕ → ℕ × Tally → List ℕ
line_text core e =
    codes "core " ++ decimal core ++ codes " " ++ hex8 e.0 ++ codes " " ++ decimal e.1.executed
    ++ codes " " ++ decimal e.1.raised ++ codes " " ++ taken_text e.1.target e.1.taken
    ++ codes "\n"

abbrev pub lines_text : ℕ → List (ℕ × Tally) → List ℕ
lines_text core entries = flat_map (line_text core) entries

-- the turns of a core in a run of an image, at the end of which it stands at this address
abbrev pub turns_of : ℕ → Image → Run → ℕ → List Turn
turns_of core image run last = turns (records_of core image run).records last

-- this is the text: the lines of core 0, and then those of core 1
pub record IsCountsText (image : Image) (run : Run) (text : List ℕ) : Type 0 where
  pub zero : List (ℕ × Tally)
  pub one : List (ℕ × Tally)
  pub zero_is : AreCounts (code_of image) (turns_of 0 image run run.trace0.pc) zero
  pub one_is : AreCounts (code_of image) (turns_of 1 image run run.trace1.pc) one
  pub text_is : text ≡ lines_text 0 zero ++ lines_text 1 one
