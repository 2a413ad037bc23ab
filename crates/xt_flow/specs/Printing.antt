-- The listing that follows the code ('profile').
--
-- Profile: the text is the one over marks that agree with this set at every address, and with the
-- words that an L32R of the set reads and no instruction of it touches.
use Rattle.std.specs.Prelude.{◌≡◌, ◌↔◌, ℕ, zero, suc, ◌+◌, ◌-◌, Bool, true, ◌==◌, ◌&&◌, ◌||◌, not}
use Rattle.std.specs.Prelude.{nat_le, if◌then◌else◌, List, [], ◌∷◌, ◌++◌, length, take, drop, codes}
use Rattle.std.specs.Prelude.{slice_index}
use Rattle.std.specs.List.{concat, enumerate_from, flat_map, join_by}
use Rattle.std.specs.Fmt.{decimal}
use Rattle.xt_map.specs.Memory.{little_endian}
use Rattle.xt_map.specs.declared.segment.Segment.{Segment}
use Rattle.xt_image.specs.declared.image.Image.{Image}
use Rattle.xt_word.specs.Hexadecimal.{hex2, hex8}
use Rattle.xt_disasm.specs.Listing.{code_line, front_length, is_code, newline, segment_line}
use Rattle.xt_flow.specs.Starts.{IsWord, Starts}

-- ---- the marks of addresses

-- at which addresses an instruction starts, and at which a word stands
pub record Marks : Type 0 where
  pub starts : ℕ → Bool
  pub words : ℕ → Bool

-- the marks are right for an image
pub record IsMarked (image : Image) (vecbase entry1 : ℕ) (roots : List ℕ) (m : Marks) : Type 0 where
  pub starts : (a : ℕ) → (m.starts a ≡ true) ↔ Starts image vecbase entry1 roots a
  pub words : (a : ℕ) → (m.words a ≡ true) ↔ IsWord image vecbase entry1 roots a

-- whether a word is printed of the bytes from an address on: it lies whole in its segment
abbrev pub is_word : Marks → ℕ → List ℕ → Bool
is_word m a bytes = m.words a && nat_le 4 (length bytes)

-- whether an instruction or a word is printed there
abbrev pub is_taken : Marks → ℕ → List ℕ → Bool
is_taken m a bytes = m.starts a || is_word m a bytes

-- ---- how many bytes a line shows

-- how far the next start is, at most n bytes
abbrev pub to_next : (ℕ → Bool) → ℕ → ℕ → ℕ
to_next starts a zero = 0
to_next starts a (suc n) = if starts a then 0 else suc (to_next starts (a + 1) n)

-- how many bytes come first, at most n, from each of which on the bytes pass a test
unfoldable pub run : ℕ → (ℕ → List ℕ → Bool) → ℕ → List ℕ → ℕ
run zero test a bytes = 0
run (suc n) test a [] = 0
run (suc n) test a (b ∷ bytes) =
    if test a (b ∷ bytes) then suc (run n test (a + 1) bytes) else 0

-- whether a zero byte comes first, and no instruction or word
abbrev pub is_zero : Marks → ℕ → List ℕ → Bool
is_zero m a bytes = not (is_taken m a bytes) && slice_index bytes 0 == 0

-- how many zero bytes come first, up to an instruction or a word
abbrev pub zero_run : Marks → ℕ → List ℕ → ℕ
zero_run m a bytes = run (length bytes) (is_zero m) a bytes

-- four zero bytes or more are printed as one space
abbrev pub is_space : Marks → ℕ → List ℕ → Bool
is_space m a bytes = nat_le 4 (zero_run m a bytes)

-- whether a byte comes first that is printed as such
abbrev pub is_byte : Marks → ℕ → List ℕ → Bool
is_byte m a bytes = not (is_taken m a bytes) && not (is_space m a bytes)

-- how many bytes come first, at most sixteen, up to an instruction, a word or a space
abbrev pub byte_run : Marks → ℕ → List ℕ → ℕ
byte_run m a bytes = run 16 (is_byte m) a bytes

-- ---- lines

-- `ADDR BYTES TEXT`
abbrev pub line : ℕ → List ℕ → List ℕ → List ℕ
line a bytes text =
    concat (hex8 a ∷ codes " " ∷ flat_map hex2 bytes ∷ codes " " ∷ text ∷ newline ∷ [])

-- `.word 0xXXXXXXXX`
abbrev pub word_line : ℕ → List ℕ → List ℕ
word_line a bytes = line a bytes (codes ".word 0x" ++ hex8 (little_endian bytes))

-- one zero byte is shown of all, and `.space N`
abbrev pub space_line : ℕ → ℕ → List ℕ
space_line a n = line a (0 ∷ []) (codes ".space " ++ decimal n)

-- bytes as `0xNN, 0xNN`
abbrev pub byte_list : List ℕ → List ℕ
byte_list bytes = join_by (λ b. codes "0x" ++ hex2 b) (codes ", ") bytes

-- `.byte 0xNN, 0xNN`
abbrev pub byte_line : ℕ → List ℕ → List ℕ
byte_line a bytes = line a bytes (codes ".byte " ++ byte_list bytes)

-- the bytes of an instruction, up to the next start inside it
abbrev pub start_count : Marks → ℕ → List ℕ → ℕ
start_count m a bytes = suc (to_next m.starts (a + 1) (front_length bytes - 1))

-- the bytes of the first line: of a word four, of a space all its zeros, and else at most sixteen
unfoldable pub first_line_length : Marks → ℕ → List ℕ → ℕ
first_line_length m a bytes =
    if m.starts a then start_count m a bytes
    else (if is_word m a bytes then 4
    else (if is_space m a bytes then zero_run m a bytes else byte_run m a bytes))

-- the first line: an instruction's is that of the plain listing
unfoldable pub first_line : Marks → ℕ → List ℕ → List ℕ
first_line m a bytes =
    if m.starts a then code_line a bytes
    else (if is_word m a bytes then word_line a (take 4 bytes)
    else (if is_space m a bytes then space_line a (zero_run m a bytes)
    else byte_line a (take (byte_run m a bytes) bytes)))

-- at most n lines of the bytes from an address on
abbrev pub lines_of : ℕ → Marks → ℕ → List ℕ → List ℕ
lines_of zero m a bytes = []
lines_of (suc n) m a [] = []
lines_of (suc n) m a (b ∷ bytes) =
    first_line m a (b ∷ bytes)
    ++ lines_of n m (a + first_line_length m a (b ∷ bytes))
    (drop (first_line_length m a (b ∷ bytes)) (b ∷ bytes))

-- the lines of all of them: there are no more lines than bytes
unfoldable pub flow_lines : Marks → ℕ → List ℕ → List ℕ
flow_lines m a bytes = lines_of (length bytes) m a bytes

-- ---- an image

-- a segment's line, and the lines of its code
abbrev pub segment_text : Marks → ℕ × Segment → List ℕ
segment_text m (i, s) = segment_line i s ++ (if is_code s then flow_lines m s.addr s.bytes else [])

-- the segments in file order, counted from 0
unfoldable pub text_by : Marks → Image → List ℕ
text_by m image = flat_map (segment_text m) (enumerate_from 0 image.segments)

-- the text is that of the marks that are right
abbrev pub IsFlowText : Image → ℕ → ℕ → List ℕ → List ℕ → Type 0
IsFlowText image vecbase entry1 roots text =
    (m : Marks) × (IsMarked image vecbase entry1 roots m × (text ≡ text_by m image))
