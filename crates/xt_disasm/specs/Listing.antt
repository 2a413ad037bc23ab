-- The text of an instruction, and the listing of an image ('profile').
--
-- Profile: a segment in an executable region is listed by a walk from its first byte; where the
-- bytes spell nothing or are too few, one byte is shown and the walk goes on after it.
use Rattle.std.specs.Prelude.{ℕ, zero, suc, ◌+◌, ◌%◌, ◌^◌, Bool, ◌&&◌, nat_le, if◌then◌else◌}
use Rattle.std.specs.Prelude.{Option, Some, None, List, [], ◌∷◌, ◌++◌, length, map, take, drop}
use Rattle.std.specs.Prelude.{slice_index_or, codes}
use Rattle.std.specs.List.{concat, enumerate_from, flat_map, join_by}
use Rattle.std.specs.Option.{option_map_or}
use Rattle.std.specs.Fmt.{decimal}
use Rattle.xt_isa.specs.declared.Insn.{Insn}
use Rattle.xt_isa.specs.Spelling.{fields_at, length_of, spelled_insn}
use Rattle.xt_map.specs.Memory.{is_loaded}
use Rattle.xt_map.specs.Regions.{is_executable, region_of}
use Rattle.xt_map.specs.declared.regions.Region.{Region}
use Rattle.xt_map.specs.declared.regions.Region.TheVariants.{Drom, Uart, RtcFastData, Dram, Iram}
use Rattle.xt_map.specs.declared.regions.Region.TheVariants.{RtcFastCode, Irom, RtcSlow}
use Rattle.xt_map.specs.declared.segment.Segment.{Segment}
use Rattle.xt_image.specs.declared.image.Image.{Image}
use Rattle.xt_word.specs.Hexadecimal.{hex2, hex8}
use Rattle.xt_names.specs.Names.{name_of}
use Rattle.xt_names.specs.InsnParts.{mnemonic_in, parts_of}
use Rattle.xt_disasm.specs.Operands.{operand_text, operands}

-- ---- an instruction

-- the operands after a mnemonic: a space, and the operands with a comma and
-- a space between each two
abbrev pub arguments : List (List ℕ) → List ℕ
arguments [] = []
arguments (x ∷ xs) = codes " " ++ join_by (λ y. y) (codes ", ") (x ∷ xs)

-- the text of an instruction that stands at an address
unfoldable pub insn_text : Insn → ℕ → List ℕ
insn_text i pc =
    let parts = parts_of i in
    name_of (mnemonic_in parts) ++ arguments (map operand_text (operands parts pc))

-- ---- a walk over code

-- a byte, or 0 past the end
abbrev pub byte_at : List ℕ → ℕ → ℕ
byte_at bytes k = slice_index_or bytes k 0

-- how many bytes the first of some bytes asks for
abbrev pub wanted_length : List ℕ → ℕ
wanted_length bytes = length_of (byte_at bytes 0)

-- the instruction that the bytes begin with, where they spell one and are not too few for it
unfoldable pub front : List ℕ → Option Insn
front bytes =
    if nat_le (wanted_length bytes) (length bytes)
    then spelled_insn (fields_at (byte_at bytes 0) (byte_at bytes 1) (byte_at bytes 2))
    else None

-- how many of the bytes their first line shows: those of the instruction, or one
abbrev pub front_length : List ℕ → ℕ
front_length bytes = option_map_or (λ i. wanted_length bytes) (front bytes) 1

-- the text of that line: the instruction's, or `.byte 0xHH`
abbrev pub front_text : ℕ → List ℕ → List ℕ
front_text pc bytes =
    option_map_or (λ i. insn_text i pc) (front bytes) (codes ".byte 0x" ++ hex2 (byte_at bytes 0))

abbrev pub newline : List ℕ
newline = 10 ∷ []

-- the line: `ADDR BYTES TEXT`, with the bytes in file order
abbrev pub code_line : ℕ → List ℕ → List ℕ
code_line pc bytes =
    concat (hex8 pc ∷ codes " " ∷ flat_map hex2 (take (front_length bytes) bytes) ∷ codes " "
    ∷ front_text pc bytes ∷ newline ∷ [])

-- at most n lines, from an address on; addresses wrap at 2^32
abbrev pub lines_of : ℕ → ℕ → List ℕ → List ℕ
lines_of zero pc bytes = []
lines_of (suc n) pc [] = []
lines_of (suc n) pc (b ∷ bytes) =
    code_line pc (b ∷ bytes)
    ++ lines_of n ((pc + front_length (b ∷ bytes)) % 2 ^ 32)
    (drop (front_length (b ∷ bytes)) (b ∷ bytes))

-- the lines of all bytes from an address on: there are no more lines than bytes
unfoldable pub code_lines : ℕ → List ℕ → List ℕ
code_lines pc bytes = lines_of (length bytes) pc bytes

-- ---- an image

abbrev pub region_name : Option Region → List ℕ
region_name (Some Drom) = codes "DROM"
region_name (Some Uart) = codes "NONE"
region_name (Some RtcFastData) = codes "RTCFD"
region_name (Some Dram) = codes "DRAM"
region_name (Some Iram) = codes "IRAM"
region_name (Some RtcFastCode) = codes "RTCFC"
region_name (Some Irom) = codes "IROM"
region_name (Some RtcSlow) = codes "RTCSLOW"
region_name None = codes "NONE"

-- where a segment lies: PAD for padding, which is not loaded; else its region, or NONE
-- outside the map and at UART0
abbrev pub place_name : Segment → List ℕ
place_name s = if is_loaded s then region_name (region_of s.addr) else codes "PAD"

-- whether a segment holds code: it is loaded, to a region that is executable
abbrev pub is_code : Segment → Bool
is_code s = is_loaded s && is_executable (region_of s.addr)

-- `segment I ADDR LENGTH REGION`
abbrev pub segment_line : ℕ → Segment → List ℕ
segment_line i s =
    concat (codes "segment " ∷ decimal i ∷ codes " " ∷ hex8 s.addr ∷ codes " "
    ∷ decimal (length s.bytes) ∷ codes " " ∷ place_name s ∷ newline ∷ [])

-- a segment's line, and the lines of its code
abbrev pub segment_text : ℕ × Segment → List ℕ
segment_text (i, s) = segment_line i s ++ (if is_code s then code_lines s.addr s.bytes else [])

-- the segments in file order, counted from 0
unfoldable pub listing_text : Image → List ℕ
listing_text image = flat_map segment_text (enumerate_from 0 image.segments)
