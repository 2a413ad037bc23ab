-- What an access does to the view of its seat.
use Rattle.std.proofs.Common.{◌≡◌, ℕ, zero, suc, ◌-◌, ◌<◌, ◌≤◌, List, [], ◌∷◌, ◌++◌, Option, Some, None, refl, sym, ap, ◌∙◌, subst, arith}
use Rattle.xt_map.specs.declared.contents.MemoryContents.{MemoryContents}
use Rattle.xt_map.specs.declared.access.Access.{Access}
use Rattle.xt_map.specs.declared.access.Entry.{Entry}
use Rattle.xt_bus.specs.States.{entry}
use Rattle.xt_bus.specs.States.{BusState, bus_after_entry}
use Rattle.xt_sharedbus.specs.declared.view.Part.{Part}
use Rattle.xt_sharedbus.specs.declared.view.Hand.{Hand}
use Rattle.xt_sharedbus.specs.declared.view.View.{View}
use Rattle.xt_sharedbus.specs.declared.view.View.TheVariants.{Live}
use Rattle.xt_sharedbus.specs.declared.rule.Item.{Item}
use Rattle.xt_sharedbus.specs.Views.{part, hand_of, part_in, hand_in, view_after_entry, view_with_hand, seat_view}
use Rattle.xt_sharedbus.specs.Rule.{HasOpening, Took, Gave}
use Rattle.xt_sharedbus.specs.Halves.{IsIdle, IsOneEntryOn}
use Rattle.xt_sharedbus.specs.Seats.{opening_in}

pub seated_idle : (m : MemoryContents) (c : ℕ) (p : Part) → IsIdle (seat_view m c p)
seated_idle m zero p = (m, Some p, None, refl)
seated_idle m (suc c) p = (m, None, Some p, refl)

pub seated_part : (m : MemoryContents) (c : ℕ) (p : Part) → part_in c (seat_view m c p) ≡ Some p
seated_part m zero p = refl
seated_part m (suc c) p = refl

pub seated_opening : (m : MemoryContents) (c : ℕ) (p : Part) → opening_in (seat_view m c p) ≡ m
seated_opening m zero p = refl
seated_opening m (suc c) p = refl

-- the bus that was taken has room for what is left
pub took_room : (v u : View) (x : Item) (m : MemoryContents) (c : ℕ) (p : Part) → c < 2 → v ≡ seat_view m c p → Took v x u → p.left ≤ x.bus.value.spare
took_room v u x m c p two is took = (took.1.1 c p two (ap (part_in c) is ∙ seated_part m c p)).1

pub took_opening : (v u : View) (x : Item) (m : MemoryContents) (c : ℕ) (p : Part) → v ≡ seat_view m c p → Took v x u → x.bus.value.opening ≡ m
took_opening v u x m zero p is took = let P : View → Type 0 = λ y. HasOpening x.bus.value.opening y in sym (subst P is took.1.0)
took_opening v u x m (suc c) p is took = let P : View → Type 0 = λ y. HasOpening x.bus.value.opening y in sym (subst P is took.1.0)

-- the view with the bus in its hand, as a live view
in_hand : (m : MemoryContents) (c : ℕ) (p : Part) (h : Hand) → (a : Option Part) × (b : Option Part) × (view_with_hand h (seat_view m c p) ≡ Live m a b (Some h))
in_hand m zero p h = (Some p, None, refl)
in_hand m (suc c) p h = (None, Some p, refl)

hand_part : (m : MemoryContents) (c : ℕ) (p : Part) (h : Hand) → part_in c (view_with_hand h (seat_view m c p)) ≡ Some p
hand_part m zero p h = refl
hand_part m (suc c) p h = refl

hand_there : (m : MemoryContents) (c : ℕ) (p : Part) (h : Hand) → hand_in (view_with_hand h (seat_view m c p)) ≡ Some h
hand_there m zero p h = refl
hand_there m (suc c) p h = refl

pub one_on : (v u : View) (x y : Item) (m : MemoryContents) (c : ℕ) (p : Part) (a : Access) (reply : ℕ) → c < 2 → 0 < p.left → v ≡ seat_view m c p → Took v x u → y.bus.value ≡ bus_after_entry x.bus.value (entry c a reply) → IsOneEntryOn u y
one_on v u x y m c p a reply two some_left is took step =
    let h : Hand = hand_of x.bus.value in
    let now : u ≡ view_with_hand h (seat_view m c p) = took.0 ∙ ap (view_with_hand h) is in
    let live = in_hand m c p h in
    let room : p.left ≤ x.bus.value.spare = took_room v u x m c p two is took in
    let less : y.bus.value.spare ≡ x.bus.value.spare - 1 = ap (λ (b : BusState). b.spare) step in (
      m,
      live.0,
      live.1,
      h,
      entry c a reply,
      p,
      now ∙ live.2,
      two,
      ap (part_in c) now ∙ hand_part m c p h,
      some_left,
      ap (λ (b : BusState). b.opening) step ∙ took_opening v u x m c p is took,
      ap (λ (b : BusState). b.history) step,
      omega arith,
    )

last_same : (es : List Entry) (e f : Entry) → es ++ e ∷ [] ≡ es ++ f ∷ [] → e ≡ f
last_same [] e f h = cc
last_same (x ∷ xs) e f h = let t : xs ++ e ∷ [] ≡ xs ++ f ∷ [] = cc in last_same xs e f t

given_back : (m : MemoryContents) (c : ℕ) (p : Part) (h : Hand) (a : Access) (reply : ℕ) → c < 2
    → view_after_entry (entry c a reply) (view_with_hand h (seat_view m c p)) ≡ seat_view m c (part (p.list ++ (a, reply) ∷ []) (p.left - 1))
given_back m zero p h a reply two = refl
given_back m (suc zero) p h a reply two = refl
given_back m (suc (suc c)) p h a reply two = absurd (omega arith)

pub gave_view : (v u w : View) (x y : Item) (m : MemoryContents) (c : ℕ) (p : Part) (a : Access) (reply : ℕ) → c < 2 → v ≡ seat_view m c p → Took v x u → y.bus.value ≡ bus_after_entry x.bus.value (entry c a reply) → Gave u y w
    → w ≡ seat_view m c (part (p.list ++ (a, reply) ∷ []) (p.left - 1))
gave_view v u w x y m c p a reply two is took step gave =
    let h : Hand = hand_of x.bus.value in
    let e : Entry = entry c a reply in
    let now : u ≡ view_with_hand h (seat_view m c p) = took.0 ∙ ap (view_with_hand h) is in
    let some_hand : Some gave.0 ≡ Some h = sym gave.2 ∙ (ap hand_in now ∙ hand_there m c p h) in
    let same : gave.0 ≡ h = cc in
    let longer : h.history ++ e ∷ [] ≡ h.history ++ gave.1 ∷ [] =
    sym (ap (λ (b : BusState). b.history) step) ∙ (gave.3 ∙ ap (λ (k : Hand). k.history ++ gave.1 ∷ []) same) in
    let last : gave.1 ≡ e = sym (last_same h.history e gave.1 longer) in
    gave.4 ∙ (ap (λ (f : Entry). view_after_entry f u) last ∙ (ap (view_after_entry e) now ∙ given_back m c p h a reply two))
