-- Carries a proof; nothing that a reader must believe.
-- The test of a conflict.
use Rattle.std.specs.Prelude.{ℕ, Bool, ◌==◌, ◌&&◌, ◌||◌, not}
use Rattle.xt_map.specs.Regions.{region_of, is_memory}
use Rattle.xt_race.specs.declared.event.Event.{Event}
use Rattle.xt_race.specs.Races.{synchronises, touches_byte, writes}
use Rattle.xt_race.specs.Tables.{some_byte}

abbrev pub touches_memory : Event → ℕ → Bool
touches_memory e a = touches_byte e a && is_memory (region_of a)

abbrev pub shares_byte : Event → Event → Bool
shares_byte x y = some_byte (touches_memory y) x.entry.access.addr x.entry.access.size

abbrev pub clash : Event → Event → Bool
clash x y =
    not (x.entry.core == y.entry.core)
    && ((writes x || writes y)
    && (not (synchronises x && synchronises y) && shares_byte x y))
