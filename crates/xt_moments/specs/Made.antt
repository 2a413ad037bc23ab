-- Carries a proof; nothing that a reader must believe.
-- A world between two moves, as bytes of memory that changed.
use Rattle.xt_map.specs.declared.contents.MemoryContents.{MemoryContents}
use Rattle.xt_search.specs.Changed.{contents_of}
use Rattle.xt_moments.specs.Moments.{MomentWorld}
use Rattle.xt_moments.specs.declared.worlds.Actors.{Actors}

-- the world that it stands for where memory opened so
abbrev pub world_of : MemoryContents → Actors → MomentWorld
world_of m w =
    record { core0 = w.core0; core1 = w.core1; memory = contents_of m w.changes }
