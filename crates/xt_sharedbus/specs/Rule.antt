-- Carries a proof; nothing that a reader must believe.
-- The rule of the shared queue.
use Rattle.std.specs.Prelude.{◌≡◌, ◌≢◌, ℕ, ◌+◌, ◌<◌, ◌≤◌, ◌⊎◌, List, [], ◌∷◌, ◌++◌, Option, Some}
use Rattle.std.specs.Prelude.{None}
use mathlib.Core.Option.{some}
use lib.ListN.{get_elem?}
use Rattle.xt_map.specs.declared.contents.MemoryContents.{MemoryContents}
use Rattle.xt_map.specs.declared.access.Entry.{Entry}
use Rattle.xt_map.specs.History.{calls_of}
use Rattle.xt_sharedbus.specs.declared.view.Part.{Part}
use Rattle.xt_sharedbus.specs.declared.view.Hand.{Hand}
use Rattle.xt_sharedbus.specs.declared.view.View.{View}
use Rattle.xt_sharedbus.specs.declared.view.View.TheVariants.{Unopened, Live, Spent}
use Rattle.xt_sharedbus.specs.declared.rule.Item.{Item}
use Rattle.xt_sharedbus.specs.Views.{unopened_view, part, hand_of, part_in, hand_in}
use Rattle.xt_sharedbus.specs.Views.{view_after_entry, view_with_hand}
use Rattle.xt_sharedbus.specs.Views.{view_without_hand}

module _ {A : Type 0} (f : View → Option A) where
  -- no view has it
  abbrev pub Nowhere : List View → Type 0
  Nowhere views = (i : ℕ) (u : View) → get_elem? views i ≡ some u → f u ≡ None

  -- exactly one view has it, and what it has is x
  abbrev pub Once : A → List View → Type 0
  Once x views = (j : ℕ) × (v : View) × (get_elem? views j ≡ some v) × (f v ≡ Some x)
      × ((i : ℕ) (u : View) → i ≢ j → get_elem? views i ≡ some u → f u ≡ None)

-- The rule says four things of the queue's items and of the views of all passes,
-- once the bus was put in:
-- 1. The queue holds one bus and no live view has a hand, or the queue is empty and exactly
-- one live view has a hand.
-- 2. All live views hold the same opening memory, and a bus in the queue has it as its own.
-- 3. Each core has exactly one live view that answers for it, and the core's accesses in the
-- history of that bus or hand are the list there.
-- 4. The spare of that bus or hand is at least the sum of the accesses that the cores have left.
-- Views that were joined away are spent, and nothing is said of them. Before the bus is put in, the
-- queue is empty and there is one view, unopened.

-- 1, and 2 of the bus in the queue
abbrev pub Stands : List Item → MemoryContents → Hand → List View → Type 0
Stands items m h views =
    ((x : Item) × (items ≡ x ∷ []) × (x.bus.value.opening ≡ m) × (hand_of x.bus.value ≡ h)
    × Nowhere hand_in views)
    ⊎ ((items ≡ []) × Once hand_in h views)

-- 2 of one view: a live view holds this opening memory, and none is unopened any more
abbrev pub HasOpening : MemoryContents → View → Type 0
HasOpening m Unopened = ⊥
HasOpening m Spent = Unit {0}
HasOpening m (Live n a b h) = n ≡ m

-- 3 of one core
abbrev pub AnswersFor : ℕ → Part → Hand → List View → Type 0
AnswersFor c p h views = Once (part_in c) p views × (calls_of c h.history ≡ p.list)

-- the bus was put in
abbrev pub IsOpen : List Item → List View → Type 0
IsOpen items views =
    (m : MemoryContents) × (h : Hand) × (p : Part) × (q : Part)
    × Stands items m h views
    × ((i : ℕ) (u : View) → get_elem? views i ≡ some u → HasOpening m u)
    × AnswersFor 0 p h views
    × AnswersFor 1 q h views
    × (p.left + q.left ≤ h.spare)

-- the bus was not put in yet
abbrev pub IsUnopened : List Item → List View → Type 0
IsUnopened items views = (items ≡ []) × (views ≡ unopened_view ∷ [])

abbrev pub HoldsOneBus : List Item → List View → Type 0
HoldsOneBus items views = IsUnopened items views ⊎ IsOpen items views

-- What each kind of step does to the view of the pass that makes it.

-- the first push leaves a view that answers for both cores, with the bus's opening memory, empty
-- lists and the item's numbers of accesses
abbrev pub Opened : View → Item → View → Type 0
Opened v x w = w ≡ Live x.bus.value.opening (Some (part [] x.turns0)) (Some (part [] x.turns1)) None

-- a bus that its holder may put in finds the queue empty
abbrev pub MayPut : View → Type 0
MayPut Unopened = Unit {0}
MayPut Spent = ⊥
MayPut (Live m a b None) = ⊥
MayPut (Live m a b (Some h)) = Unit {0}

abbrev pub FindsEmpty : View → List Item → Type 0
FindsEmpty v items = MayPut v → items ≡ []

-- what a view knows of a bus for the cores that it answers for
abbrev pub Agrees : View → Item → Type 0
Agrees v x =
    HasOpening x.bus.value.opening v
    × ((c : ℕ) (p : Part) → c < 2 → part_in c v ≡ Some p
    → (calls_of c x.bus.value.history ≡ p.list) × (p.left ≤ x.bus.value.spare))

-- a pop leaves the popped history and spare as the hand
abbrev pub Took : View → Item → View → Type 0
Took v x w = (w ≡ view_with_hand (hand_of x.bus.value) v) × Agrees v x

-- a push of the hand's bus, which has one entry more than it had; that core's list is longer by it,
-- and its accesses left are fewer by one
abbrev pub Gave : View → Item → View → Type 0
Gave v x w =
    (h : Hand) × (e : Entry) × (hand_in v ≡ Some h) × (x.bus.value.history ≡ h.history ++ e ∷ [])
    × (w ≡ view_after_entry e v)

-- a push of the hand's bus as it was
abbrev pub GaveSame : View → Item → View → Type 0
GaveSame v x w = (hand_in v ≡ Some (hand_of x.bus.value)) × (w ≡ view_without_hand v)
