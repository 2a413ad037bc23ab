-- The text of a session over a recording ('profile').
--
-- Profile: the input is a line with the number of bytes of the recording, the recording, and then
-- lines, each a script. A line ends with a newline; what stands behind the last one is no line.
use Rattle.std.specs.Prelude.{ℕ, ◌-◌, ◌==◌, nat_lt, Bool, if◌then◌else◌, Option, Some, None, List}
use Rattle.std.specs.Prelude.{◌++◌, length, map, take, drop, codes}
use Rattle.std.specs.List.{after_first, before_first, concat, list_any, slice_split}
use Rattle.std.specs.Str.{is_utf8}
use Rattle.xt_trace.specs.declared.run.Run.{Run}
use Rattle.xt_image.specs.declared.image.Image.{Image}
use Rattle.xt_record.specs.Fields.{image_in}
use Rattle.xt_record.specs.Format.{run_in}
use Rattle.xt_record.specs.declared.fault.RecordFault.TheVariants as record_fault
use Rattle.xt_command_line.specs.Numbers.{number_of}
use Rattle.xt_command_line.specs.declared.beyond.Beyond.{Beyond}
use Rattle.xt_debug.specs.declared.script.Command.{Command}
use Rattle.xt_debug.specs.Grammar.{script_of}
use Rattle.xt_debug.specs.Scripts.{script_outcome}
use Rattle.xt_report.specs.declared.status.Status.{Status}
use Rattle.xt_report.specs.declared.status.Status.TheVariants as status
use Rattle.xt_report.specs.Inputs.{recording_refusal}

abbrev pub is_newline : ℕ → Bool
is_newline byte = byte == 10

-- ---- the answer to a line

-- the lines of a text: its parts between newlines, without the last
unfoldable pub lines_of : List ℕ → List (List ℕ)
lines_of text =
    let parts = slice_split is_newline text in take (length parts - 1) parts

-- the script that a line is; a line that is not UTF-8 is none
unfoldable pub script_in : List ℕ → Option (List Command)
script_in line = if is_utf8 line then script_of line else None

-- what a script prints that begins at position 0
abbrev pub printed : Beyond → Image → Run → Option (List Command) → List ℕ
printed b image r None = codes "Usage 9\n"
printed b image r (Some commands) = (script_outcome b image r commands 0).text

unfoldable pub answer : Beyond → Image → Run → List ℕ → List ℕ
answer b image r line = printed b image r (script_in line) ++ codes ".\n"

-- the answers to the lines of a text, one after another
unfoldable pub answers : Beyond → Image → Run → List ℕ → List ℕ
answers b image r text = concat (map (answer b image r) (lines_of text))

-- ---- the input

-- the number that a line says
unfoldable pub number_in : List ℕ → Option ℕ
number_in line = if is_utf8 line then number_of line else None

-- the number of bytes that the first line says, where there is a first line and it says one
abbrev pub count_in : List ℕ → Option ℕ
count_in input =
    if list_any is_newline input then number_in (before_first is_newline input) else None

-- the most bytes of a recording, and of lines
abbrev pub recording_limit : ℕ
recording_limit = 201326592

abbrev pub lines_limit : ℕ
lines_limit = 4294967295

-- the status with which what follows the first line is refused, where it is: it is shorter than the
-- number says, or its front is no recording
abbrev pub refusal_by : Option ℕ → List ℕ → Option Status
refusal_by None rest = Some (status.Recording record_fault.Short)
refusal_by (Some n) rest =
    if nat_lt recording_limit n then Some (status.TooLarge recording_limit)
    else if nat_lt (length rest) n then Some (status.Recording record_fault.Short)
    else recording_refusal (take n rest)

unfoldable pub refusal_of : List ℕ → Option Status
refusal_of input = refusal_by (count_in input) (after_first is_newline input)

-- the bytes behind the recording; where the first line says no number, all
abbrev pub lines_by : Option ℕ → List ℕ → List ℕ → List ℕ
lines_by None input rest = input
lines_by (Some n) input rest = drop n rest

unfoldable pub lines_in : List ℕ → List ℕ
lines_in input = lines_by (count_in input) input (after_first is_newline input)

-- what is answered where so many bytes are the recording; nothing where the input is refused
abbrev pub text_by : Option Status → Beyond → Option ℕ → List ℕ → List ℕ
text_by (Some s) b count rest = codes ""
text_by None b None rest = codes ""
text_by None b (Some n) rest =
    let recording = take n rest in
    answers b (image_in recording) (run_in recording) (drop n rest)

-- the text of a session, by the input that was read
unfoldable pub session_text : Beyond → List ℕ → List ℕ
session_text b input = text_by (refusal_of input) b (count_in input) (after_first is_newline input)
