-- A recording as a file: where its parts stand (this project's own format,
-- 'profile'; little-endian).
use Rattle.std.specs.Prelude.{ℕ, zero, suc, ◌+◌, ◌*◌, ◌==◌, if◌then◌else◌, List, [], ◌∷◌, take}
use Rattle.std.specs.Prelude.{drop, slice_index}
use Rattle.std.specs.List.{flat_map}
use Rattle.std.specs.Int.{w32, to_le_bytes}
use Rattle.xt_map.specs.declared.access.Access.{Access}
use Rattle.xt_map.specs.declared.access.Entry.{Entry}
use Rattle.xt_map.specs.declared.access.Kind.{Kind}
use Rattle.xt_map.specs.declared.access.Kind.TheVariants.{Load, Store, Cas}
use Rattle.xt_trace.specs.declared.options.Options.{Options}
use Rattle.xt_image.specs.declared.image.Image.{Image}
use Rattle.xt_image.specs.Format.{image_of}
use Rattle.xt_image.specs.Layout.{word_at}
use Rattle.xt_record.specs.declared.raw.RawEntry.{RawEntry}

-- words, each in four bytes
abbrev pub words : List ℕ → List ℕ
words ws = flat_map (to_le_bytes w32) ws

-- the letters XTRC
abbrev pub magic : List ℕ
magic = 0x58 ∷ 0x54 ∷ 0x52 ∷ 0x43 ∷ []

abbrev pub version : List ℕ → ℕ
version bytes = word_at bytes 4

-- how long the image is, and its bytes
abbrev pub image_length : List ℕ → ℕ
image_length bytes = word_at bytes 8

abbrev pub image_part : List ℕ → List ℕ
image_part bytes = take (image_length bytes) (drop 12 bytes)

abbrev pub image_in : List ℕ → Image
image_in bytes = image_of (image_part bytes)

-- what follows the image
abbrev pub behind_image : List ℕ → List ℕ
behind_image bytes = drop (12 + image_length bytes) bytes

-- eight words from a place on: the turns of both cores, core 1's entry, VECBASE, and both stacks
unfoldable pub options_at : List ℕ → ℕ → Options
options_at bytes place = record {
  turns0 = word_at bytes place;
  turns1 = word_at bytes (place + 4);
  entry1 = word_at bytes (place + 8);
  vecbase = word_at bytes (place + 12);
  stack0 = record { lo = word_at bytes (place + 16); hi = word_at bytes (place + 20) };
  stack1 = record { lo = word_at bytes (place + 24); hi = word_at bytes (place + 28) };
}

-- ---- the entries

abbrev pub entry_count : List ℕ → ℕ
entry_count rest = word_at rest 32

-- the 20 bytes of an entry: its core, kind, size and a zero, its address,
-- two operands and its reply
unfoldable pub raw_at : List ℕ → ℕ → RawEntry
raw_at bytes place = record {
  core = slice_index bytes place;
  kind = slice_index bytes (place + 1);
  size = slice_index bytes (place + 2);
  zero = slice_index bytes (place + 3);
  addr = word_at bytes (place + 4);
  a = word_at bytes (place + 8);
  b = word_at bytes (place + 12);
  reply = word_at bytes (place + 16);
}

-- so many, one after another from a place on
unfoldable pub raws_from : ℕ → List ℕ → ℕ → List RawEntry
raws_from zero bytes place = []
raws_from (suc n) bytes place = raw_at bytes place ∷ raws_from n bytes (place + 20)

abbrev pub raws_in : List ℕ → List RawEntry
raws_in rest = raws_from (entry_count rest) rest 36

-- 0 is a load, 1 a store of the first operand, and 2 a compare-and-swap, which expects the
-- first and writes the second
abbrev pub kind_of : ℕ → ℕ → ℕ → Kind
kind_of zero a b = Load
kind_of (suc zero) a b = Store a
kind_of (suc (suc n)) a b = Cas a b

abbrev pub access_of : RawEntry → Access
access_of e = record { addr = e.addr; size = e.size; kind = kind_of e.kind e.a e.b }

abbrev pub entry_of : RawEntry → Entry
entry_of e = record { core = e.core; access = access_of e; reply = e.reply }

-- ---- the checkpoints, which version 2 has after the entries

abbrev pub entries_end : List ℕ → ℕ
entries_end rest = 36 + 20 * entry_count rest

abbrev pub checkpoint_count : List ℕ → ℕ
checkpoint_count rest = word_at rest (entries_end rest)

unfoldable pub checkpoint_size : ℕ
checkpoint_size = 353152

-- so many at the front
unfoldable pub blocks : ℕ → List ℕ → List (List ℕ)
blocks zero bytes = []
blocks (suc n) bytes = take checkpoint_size bytes ∷ blocks n (drop checkpoint_size bytes)

abbrev pub checkpoints_in : List ℕ → List (List ℕ)
checkpoints_in rest = blocks (checkpoint_count rest) (drop (entries_end rest + 4) rest)

-- how long what follows the image is
abbrev pub length_behind : ℕ → List ℕ → ℕ
length_behind version rest =
    if version == 1 then entries_end rest
    else entries_end rest + 4 + checkpoint_size * checkpoint_count rest
