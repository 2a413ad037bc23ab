-- What each command over a text, an ELF executable, an image or a recording makes of its input, and
-- what it refuses ('profile').
use Rattle.std.specs.Prelude.{◌≡◌, ℕ, Bool, true, false, if◌then◌else◌, List, Option, None}
use Rattle.std.specs.Prelude.{unwrap_or}
use Rattle.std.specs.List.{concat}
use Rattle.std.specs.Option.{option_map}
use Rattle.xt_image.specs.declared.image.Image.{Image}
use Rattle.xt_trace.specs.declared.run.Run.{Run}
use Rattle.xt_image.specs.ImageParts.{image_bytes}
use Rattle.xt_elf.specs.Format.{elf_image}
use Rattle.xt_elf.specs.Rules.{elf_fault}
use Rattle.xt_asm.specs.Kinds.{text_fault}
use Rattle.xt_asm.specs.Images.{IsImageOfText}
use Rattle.xt_disasm.specs.Listing.{listing_text}
use Rattle.xt_flow.specs.Printing.{IsFlowText}
use Rattle.xt_flow.specs.Sources.{IsFlowSource, source_by, plain_reading}
use Rattle.xt_record.specs.Fields.{image_in}
use Rattle.xt_record.specs.Format.{run_in}
use Rattle.xt_record.specs.Written.{recording_bytes}
use Rattle.xt_events.specs.Events.{events_text}
use Rattle.xt_events.specs.CountsText.{IsCountsText}
use Rattle.xt_debug.specs.FrameNotes.{noted}
use Rattle.xt_events.specs.Lines.{filtered_between}
use Rattle.xt_events.specs.declared.filter.Filter.{Filter}
use Rattle.xt_race.specs.Races.{events_of}
use Rattle.xt_race.specs.RaceTexts.{IsRaceText}
use Rattle.xt_profile.specs.Profiled.{profile_of, whole_of}
use Rattle.xt_profile.specs.ProfileText.{profile_text, whole_text}
use Rattle.xt_command_line.specs.declared.command.Listing.{Listing}
use Rattle.xt_command_line.specs.declared.command.ProfileOptions.{ProfileOptions}
use Rattle.xt_command_line.specs.declared.command.Way.{Way}
use Rattle.xt_command_line.specs.declared.command.Way.TheVariants as way
use Rattle.xt_command_line.specs.declared.command.Turns.{Turns}
use Rattle.xt_report.specs.declared.status.Status.{Status}
use Rattle.xt_report.specs.declared.status.Status.TheVariants as status

-- ---- what is refused

-- the status of an input's first fault as an assembly text, if it has one
unfoldable pub text_refusal : List ℕ → Option Status
text_refusal input = option_map status.Asm (text_fault input)

-- the same of an input that is to be an ELF executable
unfoldable pub elf_refusal : List ℕ → Option Status
elf_refusal input = option_map status.Elf (elf_fault input)

-- the input is not refused, and this is so of what is made of it
pub record IsMade (refusal : Option Status) (Written : Type 0) : Type 0 where
  pub accepted : refusal ≡ None
  pub written : Written

-- ---- what is made of an input

-- the image of an assembly text as a file
abbrev pub IsAssembled : List ℕ → List ℕ → Type 0
IsAssembled input bytes = (image : Image) × IsImageOfText input image × (bytes ≡ image_bytes image)

-- the image of an ELF executable as a file
unfoldable pub converted_image : List ℕ → List ℕ
converted_image input = image_bytes (elf_image input)

-- the listing of an image: each executable segment from its first byte on, or what control reaches
-- from the image's entry, that of core 1, which is the image's where the words say none, the
-- vectors and the roots; as such, or as a text in the assembly language with the other segments
abbrev pub IsListedBy : Way → Bool → Image → List ℕ → Type 0
IsListedBy way.Sweep false image bytes = bytes ≡ listing_text image
IsListedBy way.Sweep true image bytes = bytes ≡ source_by plain_reading image
IsListedBy (way.Flow o) false image bytes =
    IsFlowText image o.vecbase (unwrap_or o.entry1 image.entry) o.roots bytes
IsListedBy (way.Flow o) true image bytes =
    IsFlowSource image o.vecbase (unwrap_or o.entry1 image.entry) o.roots bytes

abbrev pub IsListed : Listing → Image → List ℕ → Type 0
IsListed l image bytes = IsListedBy l.way l.as_text image bytes

-- the recording, in version 2, of the run that a recording holds
unfoldable pub migrated_recording : List ℕ → List ℕ
migrated_recording input = recording_bytes (image_in input) (run_in input)

-- what happened to each core in that run
unfoldable pub events_output : List ℕ → List ℕ
events_output input = events_text (image_in input) (run_in input)

-- what is asked for of a turn
abbrev pub filter_of : Turns → Filter
filter_of t = record { core = t.core; accesses = t.accesses; jumps = t.jumps }

-- the lines of these turns of a run, with what is known of frames where it is asked for
abbrev pub trace_text : Turns → Image → Run → List ℕ
trace_text t image r =
    let lines = filtered_between (filter_of t) image r t.from t.to in
    concat (if t.frames then noted image r t.from lines else lines)

-- those of that run
unfoldable pub trace_output : Turns → List ℕ → List ℕ
trace_output t input = trace_text t (image_in input) (run_in input)

-- how often each core executed the instruction at each address in that run
abbrev pub IsCountsTold : List ℕ → List ℕ → Type 0
IsCountsTold input bytes = IsCountsText (image_in input) (run_in input) bytes

-- the first race in that run, or that there is none
abbrev pub IsRaceTold : List ℕ → List ℕ → Type 0
IsRaceTold input bytes = IsRaceText (events_of (image_in input) (run_in input)) bytes

-- the call profile of a run, with keys that are cut at this depth, and with the turns from the cut
-- on where they are asked for
unfoldable pub profile_by : ProfileOptions → Image → Run → List ℕ
profile_by o image r =
    if o.after then whole_text o.depth (whole_of o.depth image r)
    else profile_text o.depth (profile_of o.depth image r)

-- that of the run that a recording holds
unfoldable pub profile_output : ProfileOptions → List ℕ → List ℕ
profile_output o input = profile_by o (image_in input) (run_in input)
