-- The steps of `make` and `close`, at the views that they have.
use Rattle.std.proofs.Common.{◌≡◌, ℕ, ◌+◌, ◌≤◌, [], Some, None, sym, ap, ◌∙◌, subst, arith}
use Rattle.crossbeam_queue.specs.Fifo.{Pushes, Forks, Merges}
use Rattle.xt_map.specs.declared.contents.MemoryContents.{MemoryContents}
use Rattle.xt_map.specs.History.{calls_of}
use Rattle.xt_sharedbus.specs.declared.view.Part.{Part}
use Rattle.xt_sharedbus.specs.declared.view.View.{View}
use Rattle.xt_sharedbus.specs.declared.view.View.TheVariants.{Live}
use Rattle.xt_sharedbus.specs.declared.rule.Item.{Item}
use Rattle.xt_sharedbus.specs.Views.{unopened_view, spent_view, part_in, for_zero, for_one, for_both, seat_view}
use Rattle.xt_sharedbus.specs.Rule.{HoldsOneBus, Opened, Took}
use Rattle.xt_sharedbus.proofs.Steps.{opens, forks, merges}

pub first_pushes : (n port : ℕ) (v : View) (x : Item) → v ≡ unopened_view → x.bus.value.history ≡ [] → x.turns0 + x.turns1 ≤ x.bus.value.spare → Pushes HoldsOneBus n port v x (Opened v x)
first_pushes n port v x is empty room = let P : View → Type 0 = λ u. Pushes HoldsOneBus n port u x (Opened u x) in subst P (sym is) (opens n port x empty room)

pub first_forks : (port : ℕ) (v : View) (m : MemoryContents) (p q : Part) → v ≡ Live m (Some p) (Some q) None → Forks HoldsOneBus port v (for_zero v) (for_one v)
first_forks port v m p q is = let P : View → Type 0 = λ u. Forks HoldsOneBus port u (for_zero u) (for_one u) in subst P (sym is) (forks port m p q)

pub last_merges : (port other : ℕ) (v w : View) (c d : ℕ) (m n : MemoryContents) (p q : Part) → c ≡ 0 → d ≡ 1 → v ≡ seat_view m c p → w ≡ seat_view n d q → Merges HoldsOneBus port v other w (for_both v w) spent_view
last_merges port other v w c d m n p q first second is at =
    let P : View × View → Type 0 = λ u. Merges HoldsOneBus port u.0 other u.1 (for_both u.0 u.1) spent_view in
    let is0 : v ≡ seat_view m 0 p = is ∙ ap (λ (k : ℕ). seat_view m k p) first in
    let at1 : w ≡ seat_view n 1 q = at ∙ ap (λ (k : ℕ). seat_view n k q) second in
    subst P (λ i. (sym is0 i, sym at1 i)) (merges port m n p q other)

pub last_zero : (u u' v w : View) (x : Item) (c : ℕ) (m : MemoryContents) (p : Part) → c ≡ 0 → v ≡ seat_view m c p → u ≡ for_both v w → Took u x u' → calls_of 0 x.bus.value.history ≡ p.list
last_zero u u' v w x c m p first is both took =
    let is0 : v ≡ seat_view m 0 p = is ∙ ap (λ (k : ℕ). seat_view m k p) first in
    let there : part_in 0 u ≡ Some p = ap (part_in 0) both ∙ ap (λ (y : View). part_in 0 (for_both y w)) is0 in (took.1.1 0 p (omega arith) there).0

pub last_one : (u u' v w : View) (x : Item) (c d : ℕ) (m n : MemoryContents) (p q : Part) → c ≡ 0 → d ≡ 1 → v ≡ seat_view m c p → w ≡ seat_view n d q → u ≡ for_both v w → Took u x u' → calls_of 1 x.bus.value.history ≡ q.list
last_one u u' v w x c d m n p q first second is at both took =
    let is0 : v ≡ seat_view m 0 p = is ∙ ap (λ (k : ℕ). seat_view m k p) first in
    let at1 : w ≡ seat_view n 1 q = at ∙ ap (λ (k : ℕ). seat_view n k q) second in
    let there : part_in 1 u ≡ Some q = ap (part_in 1) both ∙ (ap (λ (y : View). part_in 1 (for_both y w)) is0 ∙ ap (part_in 1) at1) in (took.1.1 1 q (omega arith) there).0
