-- Carries a proof; nothing that a reader must believe.
-- Bytes at a place of one list, as the memory's words for bytes at an address.
use Rattle.std.specs.Prelude.{ℕ, zero, suc, ◌+◌, ◌==◌, if◌then◌else◌, List, [], ◌∷◌, slice_index}
use Rattle.std.specs.Prelude.{slice_set}
use Rattle.xt_map.specs.declared.access.Kind.{Kind}
use Rattle.xt_map.specs.declared.access.Kind.TheVariants.{Load, Store, Cas}
use Rattle.xt_map.specs.Memory.{little_endian, low_bytes}

-- the n bytes from a place on
abbrev pub bytes_in : List ℕ → ℕ → ℕ → List ℕ
bytes_in xs i zero = []
bytes_in xs i (suc n) = slice_index xs i ∷ bytes_in xs (i + 1) n

abbrev pub number_in : List ℕ → ℕ → ℕ → ℕ
number_in xs i n = little_endian (bytes_in xs i n)

-- the list with these bytes from a place on
abbrev pub put_in : List ℕ → ℕ → List ℕ → List ℕ
put_in xs i [] = xs
put_in xs i (b ∷ bs) = put_in (slice_set xs i b) (i + 1) bs

-- the list after an access of so many bytes
abbrev pub changed_in : List ℕ → ℕ → ℕ → Kind → List ℕ
changed_in xs i size Load = xs
changed_in xs i size (Store v) = put_in xs i (low_bytes size v)
changed_in xs i size (Cas expected new) =
    if number_in xs i size == expected then put_in xs i (low_bytes size new) else xs
