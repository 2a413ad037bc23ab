-- An ELF executable as a file: its file header, its program headers, and the memory that they load
-- (System V Application Binary Interface, chapters 'Object Files' and 'Program Loading', class
-- ELFCLASS32, little-endian).
use Rattle.std.specs.Prelude.{ℕ, zero, suc, ◌+◌, ◌-◌, Bool, ◌&&◌, ◌==◌, nat_le, nat_lt, List, []}
use Rattle.std.specs.Prelude.{◌∷◌, find, slice_index}
use Rattle.std.specs.Option.{option_map_or}
use Rattle.xt_image.specs.Layout.{half_at, word_at}
use Rattle.xt_elf.specs.declared.header.Header.{Header}

-- ---- the file header

abbrev pub file_type : List ℕ → ℕ
file_type bytes = half_at bytes 16

abbrev pub machine : List ℕ → ℕ
machine bytes = half_at bytes 18

abbrev pub entry_of : List ℕ → ℕ
entry_of bytes = word_at bytes 24

-- where the first program header begins
abbrev pub headers_place : List ℕ → ℕ
headers_place bytes = word_at bytes 28

-- how long a program header is, and how many there are
abbrev pub header_size : List ℕ → ℕ
header_size bytes = half_at bytes 42

abbrev pub header_count : List ℕ → ℕ
header_count bytes = half_at bytes 44

-- ---- the program headers

-- the one that begins at a place
abbrev pub header_at : List ℕ → ℕ → Header
header_at bytes place = record {
  kind = word_at bytes place;
  offset = word_at bytes (place + 4);
  addr = word_at bytes (place + 8);
  file_size = word_at bytes (place + 16);
  memory_size = word_at bytes (place + 20);
}

-- so many, one after another from a place on
unfoldable pub headers_from : ℕ → List ℕ → ℕ → List Header
headers_from zero bytes place = []
headers_from (suc n) bytes place = header_at bytes place ∷ headers_from n bytes (place + 32)

abbrev pub headers_of : List ℕ → List Header
headers_of bytes = headers_from (header_count bytes) bytes (headers_place bytes)

-- a header of type 1 (PT_LOAD) whose bytes in the file are some
abbrev pub is_loaded_header : Header → Bool
is_loaded_header h = h.kind == 1 && nat_lt 0 h.file_size

-- ---- memory

-- the header loads a byte of the file at this address; that it is the virtual address, and not the
-- physical one, is 'profile'
abbrev pub loads_at : ℕ → Header → Bool
loads_at a h = is_loaded_header h && (nat_le h.addr a && nat_lt (a - h.addr) h.file_size)

-- the byte at an address: that of the file which a header loads there, and 0 where none does
abbrev pub elf_memory : List ℕ → ℕ → ℕ
elf_memory bytes a =
    option_map_or (λ h. slice_index bytes (h.offset + (a - h.addr)))
    (find (loads_at a) (headers_of bytes)) 0
