-- Carries a proof; nothing that a reader must believe.
-- A core that has made a turn without an access goes on alone, up to its next access.
use Rattle.std.specs.Prelude.{ℕ, Bool, false, ◌==◌, not, Option, Some, None}
use Rattle.xt_map.specs.declared.access.Access.{Access}

-- another core than this one goes on alone
abbrev pub is_other : ℕ → Option ℕ → Bool
is_other c None = false
is_other c (Some d) = not (d == c)

-- the core that has to go on alone after a turn with this access
abbrev pub only_after : ℕ → Option Access → Option ℕ
only_after c None = Some c
only_after c (Some a) = None
