-- Carries a proof; nothing that a reader must believe.
-- What the two halves of an access ask and say.
use Rattle.std.specs.Prelude.{◌≡◌, ◌+◌, ◌<◌, [], ◌∷◌, ◌++◌, Option, Some, None}
use Rattle.xt_map.specs.declared.contents.MemoryContents.{MemoryContents}
use Rattle.xt_map.specs.declared.access.Entry.{Entry}
use Rattle.xt_sharedbus.specs.declared.view.Part.{Part}
use Rattle.xt_sharedbus.specs.declared.view.Hand.{Hand}
use Rattle.xt_sharedbus.specs.declared.view.View.{View}
use Rattle.xt_sharedbus.specs.declared.view.View.TheVariants.{Live}
use Rattle.xt_sharedbus.specs.declared.rule.Item.{Item}
use Rattle.xt_sharedbus.specs.Views.{part_in}

-- the view is live and has no hand
abbrev pub IsIdle : View → Type 0
IsIdle v = (m : MemoryContents) × (a : Option Part) × (b : Option Part) × (v ≡ Live m a b None)

-- the bus of the hand, with one entry more, of a core that the view answers for
-- and that has an access left
abbrev pub IsOneEntryOn : View → Item → Type 0
IsOneEntryOn v x =
    (m : MemoryContents) × (a : Option Part) × (b : Option Part) × (h : Hand) × (e : Entry)
    × (r : Part)
    × (v ≡ Live m a b (Some h))
    × (e.core < 2)
    × (part_in e.core v ≡ Some r)
    × (0 < r.left)
    × (x.bus.value.opening ≡ m)
    × (x.bus.value.history ≡ h.history ++ e ∷ [])
    × (x.bus.value.spare + 1 ≡ h.spare)
