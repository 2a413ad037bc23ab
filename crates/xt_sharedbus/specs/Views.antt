-- Carries a proof; nothing that a reader must believe.
-- The views of the passes.
use Rattle.std.specs.Prelude.{ℕ, zero, suc, ◌-◌, ◌==◌, cond, List, [], ◌∷◌, ◌++◌, Option, Some}
use Rattle.std.specs.Prelude.{None}
use Rattle.xt_map.specs.declared.contents.MemoryContents.{MemoryContents}
use Rattle.xt_map.specs.declared.access.Access.{Access}
use Rattle.xt_map.specs.declared.access.Entry.{Entry}
use Rattle.xt_bus.specs.States.{BusState}
use Rattle.xt_sharedbus.specs.declared.view.Part.{Part}
use Rattle.xt_sharedbus.specs.declared.view.Hand.{Hand}
use Rattle.xt_sharedbus.specs.declared.view.View.{View}
use Rattle.xt_sharedbus.specs.declared.view.View.TheVariants.{Unopened, Live, Spent}

abbrev pub unopened_view : View
unopened_view = Unopened

abbrev pub spent_view : View
spent_view = Spent

abbrev pub part : List (Access × ℕ) → ℕ → Part
part list left = record { list = list; left = left }

abbrev pub hand_of : BusState → Hand
hand_of b = record { history = b.history; spare = b.spare }

-- what a view holds for a core
abbrev pub part_in : ℕ → View → Option Part
part_in c Unopened = None
part_in c Spent = None
part_in zero (Live m a b h) = a
part_in (suc c) (Live m a b h) = b

abbrev pub hand_in : View → Option Hand
hand_in Unopened = None
hand_in Spent = None
hand_in (Live m a b h) = h

-- a core's part after an entry, which is this core's own or the other's
abbrev pub part_after_entry : ℕ → Entry → Part → Part
part_after_entry c e p =
    cond (e.core == c) (record { list = p.list ++ (e.access, e.reply) ∷ []; left = p.left - 1 }) p

abbrev pub grown_if : ℕ → Entry → Option Part → Option Part
grown_if c e None = None
grown_if c e (Some p) = Some (part_after_entry c e p)

-- the view that has given its bus back, one entry longer
abbrev pub view_after_entry : Entry → View → View
view_after_entry e Unopened = Unopened
view_after_entry e Spent = Spent
view_after_entry e (Live m a b h) = Live m (grown_if 0 e a) (grown_if 1 e b) None

-- the view with this bus in its hand
abbrev pub view_with_hand : Hand → View → View
view_with_hand h Unopened = Unopened
view_with_hand h Spent = Spent
view_with_hand h (Live m a b _) = Live m a b (Some h)

abbrev pub for_zero : View → View
for_zero Unopened = Unopened
for_zero Spent = Spent
for_zero (Live m a b h) = Live m a None h

abbrev pub for_one : View → View
for_one Unopened = Unopened
for_one Spent = Spent
for_one (Live m a b h) = Live m None b None

-- the first one's part for core 0 with the second one's for core 1
abbrev pub for_both : View → View → View
for_both Unopened w = Unopened
for_both Spent w = Spent
for_both (Live m a b h) w = Live m a (part_in 1 w) h

-- the view of a seat that is between two calls
abbrev pub seat_view : MemoryContents → ℕ → Part → View
seat_view m zero p = Live m (Some p) None None
seat_view m (suc c) p = Live m None (Some p) None

-- the view with nothing in its hand
abbrev pub view_without_hand : View → View
view_without_hand Unopened = Unopened
view_without_hand Spent = Spent
view_without_hand (Live m a b h) = Live m a b None
