-- Which addresses start an instruction, and where words stand ('profile'; the vectors are those of
-- the ESP32's configuration).
--
-- Profile: which addresses start an instruction is an inductive type with two constructors: an
-- opening does, and where control goes from one that does. So it is the least such set, and no walk
-- is believed. Of registers it is known what an L32R has loaded from code, up to the CALLX or JX of
-- its block (`aims_at`); any other JX or CALLX, and returns, lead nowhere.
use Rattle.std.specs.Prelude.{◌≡◌, ℕ, ◌+◌, ◌*◌, ◌%◌, ◌^◌, ◌<◌, ◌≤◌, ◌⊎◌, true, Some, List, [], ◌∷◌}
use Rattle.std.specs.Prelude.{◌++◌, length, map, is_some, Contains}
use Rattle.xt_special.specs.Exceptions.{double_vector, kernel_vector, user_vector}
use Rattle.xt_image.specs.declared.image.Image.{Image}
use Rattle.xt_flow.specs.Following.{code_from, goes_to, insn_at, length_at, literal_at}

-- the thirteen vectors, by their distance from VECBASE: the six of window exceptions, those of the
-- interrupt levels 2 to 5, and the three of general exceptions
abbrev pub vector_offsets : List ℕ
vector_offsets =
    map (λ vector. 0x40 * vector) (0 ∷ 1 ∷ 2 ∷ 3 ∷ 4 ∷ 5 ∷ [])
    ++ map (λ level. 0x100 + 0x40 * level) (2 ∷ 3 ∷ 4 ∷ 5 ∷ [])
    ++ kernel_vector ∷ user_vector ∷ double_vector ∷ []

-- where control can come from outside: the entries of both cores, the vectors, and the roots that
-- the caller names
unfoldable pub openings : ℕ → ℕ → ℕ → List ℕ → List ℕ
openings entry entry1 vecbase roots =
    entry ∷ entry1 ∷ (map (λ offset. (vecbase + offset) % 2 ^ 32) vector_offsets ++ roots)

-- an instruction lies whole in an executable segment at this address
abbrev pub HoldsInsn : Image → ℕ → Type 0
HoldsInsn image a = is_some (insn_at image.segments a) ≡ true

-- the addresses that start an instruction: an opening does, and where control goes from one that
-- does, if an instruction lies there; nothing else does
pub data Starts (image : Image) (vecbase entry1 : ℕ) (roots : List ℕ) : ℕ → Type 0 where
  Opens : (a : ℕ) → Contains (openings image.entry entry1 vecbase roots) a → HoldsInsn image a
      → Starts image vecbase entry1 roots a
  Follows : (a b : ℕ) → Starts image vecbase entry1 roots a → Contains (goes_to image.segments a) b
      → HoldsInsn image b → Starts image vecbase entry1 roots b

-- an L32R that starts somewhere reads the word at an address in code
pub record IsRead (image : Image) (vecbase entry1 : ℕ) (roots : List ℕ) (w : ℕ) : Type 0 where
  pub reader : (a : ℕ)
      × (Starts image vecbase entry1 roots a × (literal_at image.segments a ≡ Some w))
  pub code : 0 < length (code_from image.segments w)

-- a word stands at an address: an L32R reads it, and no instruction touches it, as each ends before
-- it or starts behind it
pub record IsWord (image : Image) (vecbase entry1 : ℕ) (roots : List ℕ) (w : ℕ) : Type 0 where
  pub read : IsRead image vecbase entry1 roots w
  pub free : (a : ℕ) → Starts image vecbase entry1 roots a
      → (a + length_at image.segments a ≤ w) ⊎ (w + 4 ≤ a)
