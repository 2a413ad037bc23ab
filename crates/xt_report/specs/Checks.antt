-- What `check` prints of an image ('profile').
use Rattle.std.specs.Prelude.{ℕ, Bool, true, false, List, [], ◌∷◌, ◌++◌, length, codes}
use Rattle.std.specs.List.{concat, enumerate_from, flat_map}
use Rattle.std.specs.Fmt.{decimal}
use Rattle.xt_word.specs.Hexadecimal.{hex8}
use Rattle.xt_map.specs.declared.segment.Segment.{Segment}
use Rattle.xt_image.specs.declared.image.Image.{Image}
use Rattle.xt_disasm.specs.Listing.{segment_line}
use Rattle.xt_core.specs.Runs.{code_of}
use Rattle.xt_handlers.specs.CheckAnswers.{handlers_of}
use Rattle.xt_report.specs.Verdicts.{handlers_line}

abbrev pub yes_or_no : Bool → List ℕ
yes_or_no true = codes "yes"
yes_or_no false = codes "no"

-- `image segments N entry ADDR digest yes` (or `no`)
abbrev pub image_line : Image → List ℕ
image_line image = concat (
    codes "image segments " ∷ decimal (length image.segments)
    ∷ codes " entry " ∷ hex8 image.entry
    ∷ codes " digest " ∷ yes_or_no image.digest ∷ codes "\n" ∷ [])

-- a segment's line, as the listing has it
abbrev pub line_of : ℕ × Segment → List ℕ
line_of (i, s) = segment_line i s

-- the lines of the segments in file order, counted from 0
abbrev pub segment_lines : List Segment → List ℕ
segment_lines segments = flat_map line_of (enumerate_from 0 segments)

-- these lines, and that of the window handlers from VECBASE on
unfoldable pub check_text : Image → ℕ → List ℕ
check_text image vecbase =
    image_line image
    ++ segment_lines image.segments
    ++ handlers_line (handlers_of (code_of image) vecbase)
