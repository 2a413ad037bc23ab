-- Words of which not every bit is known ('profile').
--
-- A known word is a value and a mask of 32 bits. A bit of the mask is 1 where that bit of the value
-- is known. A bit that is not known is 0 in the value.
use Rattle.std.specs.Prelude.{◌≡◌, ℕ, ◌-◌, ◌^◌, Bool, ◌==◌, if◌then◌else◌, bit_and, bit_or}
use Rattle.std.specs.Prelude.{bit_xor}
use Rattle.std.specs.Int.{trailing_ones, w32}
pub use Rattle.xt_uses.specs.declared.words.Word.{Word}

abbrev pub all_bits : ℕ
all_bits = 2 ^ 32 - 1

-- a number of which each bit is known
abbrev pub whole_word : ℕ → Word
whole_word n = record { value = n; mask = all_bits }

-- the known bits of a number, 0 elsewhere
abbrev pub masked : ℕ → ℕ → ℕ
masked mask n = bit_and n mask

-- a known word fits each number that has its known bits
abbrev pub Fits : ℕ → Word → Type 0
Fits n w = masked w.mask n ≡ w.value

-- ---- what is known of a word

-- each of these bits is
abbrev pub knows : ℕ → Word → Bool
knows bits w = masked w.mask bits == bits

abbrev pub is_whole : Word → Bool
is_whole w = knows all_bits w

-- the other bits of 32
abbrev pub complement : ℕ → ℕ
complement bits = bit_xor bits all_bits

-- where a bit is known to be 1, and where it is known to be 0
abbrev pub ones : Word → ℕ
ones w = masked w.mask w.value

abbrev pub zeros : Word → ℕ
zeros w = masked w.mask (complement w.value)

-- ---- masks of results

-- where both are known
abbrev pub both_mask : Word → Word → ℕ
both_mask x y = bit_and x.mask y.mask

-- of `and`: where both are known, or one is known to be 0
abbrev pub and_mask : Word → Word → ℕ
and_mask x y = bit_or (both_mask x y) (bit_or (zeros x) (zeros y))

-- of `or`: where both are known, or one is known to be 1
abbrev pub or_mask : Word → Word → ℕ
or_mask x y = bit_or (both_mask x y) (bit_or (ones x) (ones y))

-- Of a shift or an extension, which moves bits, copies them and puts zeros in: the bits that are
-- not known are moved and copied in the same way, and the zeros are known.
abbrev pub moved_mask : (ℕ → ℕ) → ℕ → ℕ
moved_mask move mask = complement (move (complement mask))

-- the bits below the lowest that is not known
abbrev pub below_unknown : ℕ → ℕ
below_unknown mask = 2 ^ trailing_ones w32 mask - 1

-- all bits where the condition holds, else none
abbrev pub mask_where : Bool → ℕ
mask_where condition = if condition then all_bits else 0

-- ---- words of results

abbrev pub and_word : Word → Word → Word
and_word x y = record { value = bit_and x.value y.value; mask = and_mask x y }

abbrev pub not_word : Word → Word
not_word x = record { value = zeros x; mask = x.mask }
