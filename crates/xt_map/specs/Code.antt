-- Constant memory, a function from addresses to bytes, and the numbers that
-- its bytes are ('profile').
use Rattle.std.specs.Prelude.{ℕ, zero, suc, ◌+◌, ◌<◌, ◌^◌, List, [], ◌∷◌}
use Rattle.xt_map.specs.Memory.{little_endian}

-- constant memory is of bytes
abbrev pub AreBytes : (ℕ → ℕ) → Type 0
AreBytes code = (a : ℕ) → code a < 2 ^ 8

-- the n bytes that a memory has from an address on
abbrev pub code_bytes : (ℕ → ℕ) → ℕ → ℕ → List ℕ
code_bytes code a zero = []
code_bytes code a (suc n) = code a ∷ code_bytes code (a + 1) n

-- their little-endian number
abbrev pub code_number : (ℕ → ℕ) → ℕ → ℕ → ℕ
code_number code a n = little_endian (code_bytes code a n)
