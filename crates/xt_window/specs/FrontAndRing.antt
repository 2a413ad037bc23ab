-- Carries a proof; nothing that a reader must believe.
-- The 64 registers as a front of 16 visible ones and a ring keep them: the front, written back.
use Rattle.std.specs.Prelude.{ℕ, zero, suc, List, slice_index, slice_set}
use Rattle.xt_window.specs.Ring.{place}

-- the ring once the first n registers of the front of window w are written back
unfoldable pub written_back : List ℕ → List ℕ → ℕ → ℕ → List ℕ
written_back ring front w zero = ring
written_back ring front w (suc n) =
    slice_set (written_back ring front w n) (place w n) (slice_index front n)
