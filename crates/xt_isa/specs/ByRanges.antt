-- Carries a proof; nothing that a reader must believe.
-- The numbers of the special registers that XSR reaches, by ranges.
use Rattle.std.specs.Prelude.{ℕ, Bool, ◌==◌, ◌||◌}
use Rattle.xt_isa.specs.Spelling.{within}

-- the numbers that XSR reaches, by ranges
unfoldable pub in_ranges : ℕ → Bool
in_ranges n =
    within 0 4 n || n == 12 || within 72 73 n || within 177 183 n || n == 192 || within 194 199 n
    || within 209 215 n || n == 228 || within 230 232 n || n == 234 || n == 238
    || within 240 242 n || within 244 247 n
