use Rattle.std.proofs.Common.{◌≡◌, ◌<◌, ℕ, get_or, length}
use Rattle.xt_simulation.specs.SecretBytes.{opening_bytes}
use Rattle.xt_simulation.specs.WatchedRuns.{has_byte_at}
use Rattle.xt_secret_walk.specs.KnownBytes.{address_at}
use Rattle.xt_secret_walk.proofs.bytes.open_masks.Given as goal

abbrev pub invariant-loop-place : goal.invariant-loop-place
invariant-loop-place l =
    (length l.masks.items ≡ l.place) × ((k : ℕ) → k < l.place → get_or l.masks.items k 0 ≡ opening_bytes (has_byte_at l.secret) (has_byte_at l.public) (address_at k))
