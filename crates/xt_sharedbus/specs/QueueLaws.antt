-- Carries a proof; nothing that a reader must believe.
-- Each kind of step keeps the rule of the shared queue. This is the contract of a
-- function of src/laws.rt.
use Rattle.std.specs.Prelude.{◌≡◌, ℕ, ◌+◌, ◌<◌, ◌≤◌, [], ◌∷◌, ◌++◌, Option, Some, None}
use Rattle.crossbeam_queue.specs.Fifo.{Pushes, Pops, Forks, Merges, Learns}
use Rattle.xt_map.specs.declared.access.Entry.{Entry}
use Rattle.xt_map.specs.declared.contents.MemoryContents.{MemoryContents}
use Rattle.xt_sharedbus.specs.declared.view.Part.{Part}
use Rattle.xt_sharedbus.specs.declared.view.Hand.{Hand}
use Rattle.xt_sharedbus.specs.declared.view.View.{View}
use Rattle.xt_sharedbus.specs.declared.view.View.TheVariants.{Live}
use Rattle.xt_sharedbus.specs.declared.rule.Item.{Item}
use Rattle.xt_sharedbus.specs.Views.{unopened_view, spent_view, hand_of, part_in}
use Rattle.xt_sharedbus.specs.Rule.{HoldsOneBus, Opened, FindsEmpty, Took, Gave, GaveSame}

-- the first push: a bus with no history and room for the accesses of both cores
abbrev pub OpenKeepsRule : Type 0
OpenKeepsRule =
    (n port : ℕ) (x : Item) → x.bus.value.history ≡ [] → x.turns0 + x.turns1 ≤ x.bus.value.spare
    → Pushes HoldsOneBus n port unopened_view x (Opened unopened_view x)

-- a pop
abbrev pub TakeKeepsRule : Type 0
TakeKeepsRule =
    (port : ℕ) (m : MemoryContents) (a b : Option Part)
    → Pops HoldsOneBus port (Live m a b None) (Took (Live m a b None))

-- a pass with the bus in its hand, or with the bus that it is to put in
-- first, finds the queue empty
abbrev pub FindsEmptyInHand : Type 0
FindsEmptyInHand = (port : ℕ) (v : View) → Learns HoldsOneBus port v (FindsEmpty v)

-- a push of the hand's bus with one entry more, of a core that the pass answers for
-- and that has an access left
abbrev pub GiveBackKeepsRule : Type 0
GiveBackKeepsRule =
    (n port : ℕ) (m : MemoryContents) (a b : Option Part) (h : Hand) (x : Item) (e : Entry)
    (r : Part)
    → e.core < 2 → part_in e.core (Live m a b (Some h)) ≡ Some r → 0 < r.left
    → x.bus.value.opening ≡ m → x.bus.value.history ≡ h.history ++ e ∷ []
    → x.bus.value.spare + 1 ≡ h.spare
    → Pushes HoldsOneBus n port (Live m a b (Some h)) x (Gave (Live m a b (Some h)) x)

-- a push of the hand's bus as it was taken
abbrev pub ReturnKeepsRule : Type 0
ReturnKeepsRule =
    (n port : ℕ) (m : MemoryContents) (a b : Option Part) (x : Item)
    → x.bus.value.opening ≡ m → Pushes HoldsOneBus n port (Live m a b (Some (hand_of x.bus.value)))
    x (GaveSame (Live m a b (Some (hand_of x.bus.value))) x)

-- a pass that answers for both cores becomes one for core 0 and one for core 1
abbrev pub SplitKeepsRule : Type 0
SplitKeepsRule =
    (port : ℕ) (m : MemoryContents) (p q : Part)
    → Forks HoldsOneBus port (Live m (Some p) (Some q) None) (Live m (Some p) None None)
    (Live m None (Some q) None)

-- core 0's pass answers for both again, and core 1's is spent
abbrev pub JoinKeepsRule : Type 0
JoinKeepsRule =
    (port : ℕ) (m n : MemoryContents) (p q : Part) (other : ℕ)
    → Merges HoldsOneBus port (Live m (Some p) None None) other (Live n None (Some q) None)
    (Live m (Some p) (Some q) None) spent_view
