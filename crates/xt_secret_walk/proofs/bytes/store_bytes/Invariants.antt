use Rattle.std.proofs.Common.{◌≡◌}
use Rattle.xt_frames.specs.Breaches.{some_byte}
use Rattle.xt_simulation.specs.WatchedRuns.{has_byte_at}
use Rattle.xt_use_walk.specs.MaskedBytes.{AreMasks, IsFull, mask_at}
use Rattle.xt_secret_walk.specs.KnownBytes.{is_hidden_byte, stored_in_bytes}
use Rattle.xt_secret_walk.proofs.bytes.store_bytes.Given as goal

abbrev pub invariant-loop-k : goal.invariant-loop-k
invariant-loop-k l =
    IsFull l.masks × AreMasks l.masks (stored_in_bytes (has_byte_at l.public) l.stored l.addr l.k (mask_at l.initial.masks)) × (l.hides ≡ some_byte (is_hidden_byte (has_byte_at l.public) l.stored l.addr) l.addr l.k)
