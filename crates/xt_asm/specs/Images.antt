-- The image of an assembly text without a fault ('profile'; the bytes of the head are those of
-- esptool's image format).
use Rattle.std.specs.Prelude.{◌≡◌, ℕ, ◌++◌, ℤ, pos, true, List, [], ◌∷◌, length, zip, Option, Some}
use Rattle.std.specs.Prelude.{None, Result, Ok, Err, if◌then◌else◌}
use Rattle.xt_lex.specs.declared.fault.AsmFault.{AsmFault}
use Rattle.xt_lex.specs.declared.fault.AsmFault.TheVariants as fault
use Rattle.xt_lex.specs.Tokens.{tokens_of}
use Rattle.xt_map.specs.declared.segment.Segment.{Segment}
use Rattle.xt_image.specs.Made.{made_head}
use Rattle.xt_image.specs.declared.image.Image.{Image}
use Rattle.xt_lex.specs.declared.labels.Label.{Label}
use Rattle.xt_lex.specs.Values.{value_of}
use Rattle.xt_parse.specs.declared.line.Line.{Line}
use Rattle.xt_parse.specs.declared.statement.Statement.{Statement}
use Rattle.xt_parse.specs.declared.statement.Statement.TheVariants.{Entry, Seg}
use Rattle.xt_parse.specs.Lines.{parsed_lines}
use Rattle.xt_layout.specs.Pools.{is_segment}
use Rattle.xt_layout.specs.Addresses.{labels_of}
use Rattle.xt_layout.specs.Sizes.{padding}
use Rattle.xt_asm.specs.Kinds.{lines_fault, no_entry, text_fault}
use Rattle.xt_asm.specs.Pieces.{ArePieces, sources_of, zeros}

-- ---- segments

-- the bytes of the lines up to the next `.seg`
abbrev pub content : List (Line × List ℕ) → List ℕ
content [] = []
content (x ∷ rest) = if is_segment x.0.statement then [] else x.1 ++ content rest

-- zeros after the bytes up to a multiple of 4
abbrev pub with_padding : List ℕ → List ℕ
with_padding bytes = bytes ++ zeros (padding 4 (length bytes))

-- the segment that a statement begins, after which the lines with their bytes are these
abbrev pub segment_at : Statement → List (Line × List ℕ) → List Segment
segment_at (Seg start) rest = record { addr = start; bytes = with_padding (content rest) } ∷ []
segment_at _ rest = []

-- the segments that the lines with their bytes begin, in the text's order
abbrev pub segments_of : List (Line × List ℕ) → List Segment
segments_of [] = []
segments_of (x ∷ rest) = segment_at x.0.statement rest ++ segments_of rest

-- ---- the entry

abbrev pub entry_or : List Label → Statement → Option ℤ → Option ℤ
entry_or labels (Entry e) later = value_of labels e
entry_or labels _ later = later

-- the value of the first `.entry`
abbrev pub entry_of : List Label → List Line → Option ℤ
entry_of labels [] = None
entry_of labels (l ∷ rest) = entry_or labels l.statement (entry_of labels rest)

-- ---- the image

-- the image is that of the lines
pub record IsImageOf (lines : List Line) (image : Image) : Type 0 where
  -- the bytes of each line
  pub pieces : List (List ℕ)
  pub are_pieces : ArePieces (sources_of lines) pieces
  pub segments : image.segments ≡ segments_of (zip lines pieces)
  pub entry : Some (pos image.entry) ≡ entry_of (labels_of lines) lines
  pub head_is : image.head ≡ made_head
  pub digest : image.digest ≡ true

-- the image is that of the text's lines
pub record IsImageOfText (text : List ℕ) (image : Image) : Type 0 where
  pub lines : List Line
  pub read : parsed_lines (tokens_of text) ≡ Ok lines
  pub image_is : IsImageOf lines image

-- an image comes exactly where the text has no fault, and is the text's; else its first fault,
-- unless memory ran out
abbrev pub Assembles : Result Image AsmFault → List ℕ → Type 0
Assembles (Ok image) text = (text_fault text ≡ None) × IsImageOfText text image
Assembles (Err (fault.Place place)) text = text_fault text ≡ Some place
Assembles (Err fault.Memory) text = Unit {0}

-- the same of lines that were read
abbrev pub AssemblesLines : Result Image AsmFault → List Line → Type 0
AssemblesLines (Ok image) lines = (lines_fault lines ≡ None) × IsImageOf lines image
AssemblesLines (Err (fault.Place place)) lines = lines_fault lines ≡ Some place
AssemblesLines (Err fault.Memory) lines = Unit {0}

-- the same of lines that have no fault but perhaps no entry or no segment
abbrev pub Closes : Result Image AsmFault → List Line → Type 0
Closes (Ok image) lines = (no_entry lines ≡ None) × IsImageOf lines image
Closes (Err (fault.Place place)) lines = no_entry lines ≡ Some place
Closes (Err fault.Memory) lines = Unit {0}
