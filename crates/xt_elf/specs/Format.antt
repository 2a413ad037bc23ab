-- The image of an ELF executable ('profile').
use Rattle.std.specs.Prelude.{◌≡◌, ◌≢◌, ℕ, ◌++◌, true, List, [], filter, map, take, drop, replicate}
use Rattle.std.specs.Prelude.{Result, Ok, Err, Some, None, if◌then◌else◌}
use Rattle.xt_map.specs.declared.segment.Segment.{Segment}
use Rattle.xt_map.specs.Memory.{byte_at, constant_byte, opening_memory}
use Rattle.xt_map.specs.Regions.{is_constant, region_of}
use Rattle.xt_image.specs.declared.image.Image.{Image}
use Rattle.xt_image.specs.Made.{made_head}
use Rattle.xt_elf.specs.Headers.{elf_memory, entry_of, headers_of, is_loaded_header}
use Rattle.xt_elf.specs.Rules.{elf_fault, padding}
use Rattle.xt_elf.specs.declared.header.Header.{Header}
use Rattle.xt_elf.specs.declared.fault.ElfFault.{ElfFault}
use Rattle.xt_elf.specs.declared.fault.ElfFault.TheVariants.{Memory}

-- the bytes of a header in the file, and zeros up to a multiple of 4, at its virtual address
abbrev pub segment_of : List ℕ → Header → Segment
segment_of bytes h = record {
  addr = h.addr;
  bytes = take h.file_size (drop h.offset bytes) ++ replicate (padding h.file_size) 0;
}

-- one segment for each loaded header, in their order
abbrev pub elf_image : List ℕ → Image
elf_image bytes = record {
  head = made_head;
  entry = entry_of bytes;
  digest = true;
  segments = map (segment_of bytes) (filter is_loaded_header (headers_of bytes));
}

-- the image where no rule fails, else the first fault, unless memory ran out
abbrev pub Converts : Result Image ElfFault → List ℕ → Type 0
Converts (Ok image) bytes = (elf_fault bytes ≡ None) × (image ≡ elf_image bytes)
Converts (Err e) bytes = e ≢ Memory → elf_fault bytes ≡ Some e

-- what an image holds at an address: its contents of a constant region, or what the opening memory
-- has there, without the words that the stacks begin with
abbrev pub image_memory : Image → ℕ → ℕ
image_memory i a =
    if is_constant (region_of a) then constant_byte i.segments a
    else byte_at (opening_memory i.segments []) a

-- at every address the image holds what the file loads there
abbrev pub HoldsMemoryOf : List ℕ → Image → Type 0
HoldsMemoryOf bytes i = (a : ℕ) → image_memory i a ≡ elf_memory bytes a
