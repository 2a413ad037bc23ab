use Rattle.std.specs.Prelude.{◌≡◌, ℕ, ◌<◌, slice_index}
use Rattle.xt_window.specs.Ring.{place}
use Rattle.xt_window.proofs.front.load.Given as goal

abbrev pub invariant-loop-i : goal.invariant-loop-i
invariant-loop-i l = (i : ℕ) → i < l.i → slice_index l.front i ≡ slice_index l.ring (place l.base i)
