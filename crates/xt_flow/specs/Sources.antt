-- The listing as a text in the assembly language ('profile').
--
-- Profile: each line ends in a comment with its address. Bytes that are no instruction are numbers,
-- and so are those of an instruction inside which another one starts. A segment that holds no code
-- is printed as words, and words of zeros as one space; padding, which is loaded nowhere, is a
-- comment.
use Rattle.std.specs.Prelude.{◌≡◌, ℕ, zero, suc, ◌+◌, ◌*◌, ◌/◌, Bool, ◌==◌, nat_le}
use Rattle.std.specs.Prelude.{if◌then◌else◌, List, [], ◌∷◌, ◌++◌, length, take, drop, codes}
use Rattle.std.specs.List.{concat, enumerate_from, flat_map, prefix_len}
use Rattle.std.specs.Option.{option_map_or}
use Rattle.std.specs.Fmt.{decimal}
use Rattle.xt_map.specs.Memory.{is_loaded, little_endian}
use Rattle.xt_map.specs.declared.segment.Segment.{Segment}
use Rattle.xt_image.specs.declared.image.Image.{Image}
use Rattle.xt_word.specs.Hexadecimal.{hex8}
use Rattle.xt_disasm.specs.Listing.{front, front_length, insn_text, is_code, newline, segment_line}
use Rattle.xt_flow.specs.Printing.{IsMarked, Marks, byte_list, byte_run, is_space, is_word}
use Rattle.xt_flow.specs.Printing.{first_line_length}
use Rattle.xt_flow.specs.Printing.{start_count, zero_run}

-- ---- a walk over bytes

-- what the first line of the bytes from an address on says, and how many of them it shows
pub record Reading : Type 0 where
  pub words : ℕ → List ℕ → List ℕ
  pub count : ℕ → List ℕ → ℕ

-- `WORDS # ADDR`
abbrev pub source_line : ℕ → List ℕ → List ℕ
source_line a words = concat (words ∷ codes " # " ∷ hex8 a ∷ newline ∷ [])

-- at most n lines of the bytes from an address on
abbrev pub lines_of : ℕ → Reading → ℕ → List ℕ → List ℕ
lines_of zero r a bytes = []
lines_of (suc n) r a [] = []
lines_of (suc n) r a (b ∷ bytes) =
    source_line a (r.words a (b ∷ bytes))
    ++ lines_of n r (a + r.count a (b ∷ bytes)) (drop (r.count a (b ∷ bytes)) (b ∷ bytes))

-- the lines of all of them: there are no more lines than bytes
unfoldable pub source_lines : Reading → ℕ → List ℕ → List ℕ
source_lines r a bytes = lines_of (length bytes) r a bytes

-- ---- what a line says

abbrev pub byte_words : List ℕ → List ℕ
byte_words bytes = codes ".byte " ++ byte_list bytes

abbrev pub word_words : List ℕ → List ℕ
word_words bytes = codes ".word 0x" ++ hex8 (little_endian bytes)

abbrev pub space_words : ℕ → List ℕ
space_words n = codes ".space " ++ decimal n

-- the instruction that the bytes begin with, or the first of them
unfoldable pub front_words : ℕ → List ℕ → List ℕ
front_words a bytes =
    option_map_or (λ i. insn_text i a) (front bytes) (byte_words (take 1 bytes))

-- code as the plain listing walks over it, from its first byte on
abbrev pub plain_reading : Reading
plain_reading = record { words = front_words; count = λ a bytes. front_length bytes }

-- an instruction that starts there, or the bytes before the next start inside it
abbrev pub start_words : Marks → ℕ → List ℕ → List ℕ
start_words m a bytes =
    if start_count m a bytes == front_length bytes then front_words a bytes
    else byte_words (take (start_count m a bytes) bytes)

unfoldable pub flow_words : Marks → ℕ → List ℕ → List ℕ
flow_words m a bytes =
    if m.starts a then start_words m a bytes
    else (if is_word m a bytes then word_words (take 4 bytes)
    else (if is_space m a bytes then space_words (zero_run m a bytes)
    else byte_words (take (byte_run m a bytes) bytes)))

-- code as the listing that follows it shows it
abbrev pub flow_reading : Marks → Reading
flow_reading m = record { words = flow_words m; count = first_line_length m }

-- how many bytes are in the words of zeros that come first
abbrev pub zero_words : List ℕ → ℕ
zero_words bytes = prefix_len (λ b. b == 0) bytes / 4 * 4

-- two words of zeros or more are printed as one space
abbrev pub is_gap : List ℕ → Bool
is_gap bytes = nat_le 8 (zero_words bytes)

unfoldable pub data_words : List ℕ → List ℕ
data_words bytes =
    if is_gap bytes then space_words (zero_words bytes)
    else (if nat_le 4 (length bytes) then word_words (take 4 bytes) else byte_words bytes)

unfoldable pub data_count : List ℕ → ℕ
data_count bytes =
    if is_gap bytes then zero_words bytes
    else (if nat_le 4 (length bytes) then 4 else length bytes)

-- a segment that holds no code
abbrev pub numbers : Reading
numbers = record { words = λ a bytes. data_words bytes; count = λ a bytes. data_count bytes }

-- ---- an image

-- `.seg 0xXXXXXXXX `; padding has none
abbrev pub seg_words : Segment → List ℕ
seg_words s = if is_loaded s then concat (codes ".seg 0x" ∷ hex8 s.addr ∷ codes " " ∷ []) else []

-- that, and the segment's line as a comment
abbrev pub seg_line : ℕ → Segment → List ℕ
seg_line i s = concat (seg_words s ∷ codes "# " ∷ segment_line i s ∷ [])

-- `.entry 0xXXXXXXXX`
abbrev pub entry_line : ℕ → List ℕ
entry_line entry = concat (codes ".entry 0x" ∷ hex8 entry ∷ newline ∷ [])

-- the lines of a segment's bytes, by the reading of code
abbrev pub body_of : Reading → Segment → List ℕ
body_of code s =
    if is_code s then source_lines code s.addr s.bytes
    else (if is_loaded s then source_lines numbers s.addr s.bytes else [])

abbrev pub segment_source : Reading → ℕ × Segment → List ℕ
segment_source code (i, s) = seg_line i s ++ body_of code s

-- the entry, and the segments in file order, counted from 0
unfoldable pub source_by : Reading → Image → List ℕ
source_by code image =
    entry_line image.entry ++ flat_map (segment_source code) (enumerate_from 0 image.segments)

-- the text is that of the marks that are right
abbrev pub IsFlowSource : Image → ℕ → ℕ → List ℕ → List ℕ → Type 0
IsFlowSource image vecbase entry1 roots text =
    (m : Marks) × (IsMarked image vecbase entry1 roots m
    × (text ≡ source_by (flow_reading m) image))
