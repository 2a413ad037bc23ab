-- The steps, at the views of the two halves of an access.
use Rattle.std.proofs.Common.{◌≡◌, ℕ, List, length, sym, ap, ◌∙◌, subst, arith}
use Rattle.crossbeam_queue.specs.Fifo.{Pushes, Pops, Held}
use Rattle.xt_sharedbus.specs.declared.view.View.{View}
use Rattle.xt_sharedbus.specs.declared.rule.Item.{Item}
use Rattle.xt_sharedbus.specs.Views.{part_in}
use Rattle.xt_sharedbus.specs.Rule.{HoldsOneBus, MayPut, FindsEmpty, Took, Gave}
use Rattle.xt_sharedbus.specs.Halves.{IsIdle, IsOneEntryOn}
use Rattle.xt_sharedbus.proofs.Steps.{takes, gives}

pub idle_takes : (port : ℕ) (v : View) → IsIdle v → Pops HoldsOneBus port v (Took v)
idle_takes port v s = let P : View → Type 0 = λ u. Pops HoldsOneBus port u (Took u) in subst P (sym s.3) (takes port s.0 s.1 s.2)

pub one_on_gives : (n port : ℕ) (v : View) (x : Item) → IsOneEntryOn v x → Pushes HoldsOneBus n port v x (Gave v x)
one_on_gives n port v x s =
    let P : View → Type 0 = λ u. Pushes HoldsOneBus n port u x (Gave u x) in
    subst P (sym s.6) (gives n port s.0 s.1 s.2 s.3 x s.4 s.5 s.7 (ap (part_in s.4.core) (sym s.6) ∙ s.8) s.9 s.10 s.11 s.12)

-- a queue of one that is found full holds nothing: it cannot be
pub never_full : (n : ℕ) (v : View) → n ≡ 1 → MayPut v → Held n (FindsEmpty v) → ⊥
never_full n v one may full = let none : length full.0 ≡ 0 = ap (λ (l : List Item). length l) (full.2 may) in let is = full.1 in absurd (omega arith)

pub one_on_puts : (v : View) (x : Item) → IsOneEntryOn v x → MayPut v
one_on_puts v x s = subst MayPut (sym s.6) tt
