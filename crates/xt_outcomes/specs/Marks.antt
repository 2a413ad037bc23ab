-- Carries a proof; nothing that a reader must believe.
-- Numbers that are the same for the same worlds.
use Rattle.std.specs.Prelude.{◌≡◌, ℕ, ◌+◌, ◌*◌, ◌%◌, ◌^◌}
use Rattle.xt_search.specs.Changed.{digest_of}
use Rattle.xt_outcomes.specs.SideMarks.{side_mark}
use Rattle.xt_outcomes.specs.declared.world.World.{World}

abbrev pub world_mark : World → ℕ
world_mark w =
    ((digest_of w.changes.value + side_mark w.side0.value * 31 % 2 ^ 64) % 2 ^ 64
    + side_mark w.side1.value * 1009 % 2 ^ 64) % 2 ^ 64

-- both cores and memory are the same
abbrev pub IsSameWorld : World → World → Type 0
IsSameWorld v w =
    (v.side0.value ≡ w.side0.value) × (v.side1.value ≡ w.side1.value)
    × (v.changes.value ≡ w.changes.value)
