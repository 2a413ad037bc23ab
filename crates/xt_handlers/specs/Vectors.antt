-- The vectors of the window handlers, and their answers (the offsets of the vectors from VECBASE
-- are those of the ESP32's configuration; the offset that a vector that fails has is 'profile').
--
-- Note: the offsets are those of the ESP32's configuration.
use Rattle.std.specs.Prelude.{◌≡◌, ℕ, ◌+◌, ◌-◌, ◌*◌, ◌<◌, if◌then◌else◌, List}
use Rattle.xt_map.specs.Fetching.{can_fetch}
use Rattle.xt_map.specs.Code.{code_bytes}
use Rattle.xt_handlers.specs.declared.stretch.Side.{Side}
use Rattle.xt_handlers.specs.declared.stretch.Side.TheVariants.{Overflow, Underflow}
use Rattle.xt_handlers.specs.declared.stretch.HandlerVerdict.{HandlerVerdict}
use Rattle.xt_handlers.specs.declared.stretch.HandlerVerdict.TheVariants.{Yes, No}
use Rattle.xt_handlers.specs.Spelled.{lines_of}
use Rattle.xt_handlers.specs.Handling.{handling_verdict}

-- the number of a vector, 0 to 5: Overflow4, Underflow4, Overflow8, Underflow8,
-- Overflow12 and Underflow12
abbrev pub vector_number : Side → ℕ → ℕ
vector_number Overflow n = 2 * (n - 1)
vector_number Underflow n = 2 * (n - 1) + 1

abbrev pub vector_at : ℕ → Side → ℕ → ℕ
vector_at vecbase side n = vecbase + 0x40 * vector_number side n

abbrev pub vector_bytes : (ℕ → ℕ) → ℕ → List ℕ
vector_bytes code at = code_bytes code at 64

-- the answer for the vector of n at VECBASE; a vector lies whole in one region, since
-- VECBASE is a multiple of 1024
abbrev pub verdict_of : (ℕ → ℕ) → ℕ → Side → ℕ → HandlerVerdict
verdict_of code vecbase side n =
    if can_fetch (vector_at vecbase side n)
    then handling_verdict side n (lines_of (vector_bytes code (vector_at vecbase side n)))
    else No 0

-- the six handlers pass the check
abbrev pub Handlers : (ℕ → ℕ) → ℕ → Type 0
Handlers code vecbase = (side : Side) (n : ℕ) → 0 < n → n < 4 → verdict_of code vecbase side n ≡ Yes
