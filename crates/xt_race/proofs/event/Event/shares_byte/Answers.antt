use Rattle.std.proofs.Common.{◌≡◌, ℕ, ◌+◌, ◌-◌, Bool, false, ◌||◌, sym, ◌∙◌, ap, ap₂}
use Rattle.xt_race.specs.Tables.{some_byte}
use Rattle.xt_race.specs.Clashes.{touches_memory}
use Rattle.xt_race.proofs.Tabled.{some_at}
use Rattle.xt_race.proofs.event.Event.shares_byte.Goals as goal

pub loop-k-preserved : goal.loop-k-preserved
loop-k-preserved c =
    let f : ℕ → Bool = touches_memory c.args.other.now in
    let addr = c.args.self.now.entry.access.addr in
    let size = c.args.self.now.entry.access.size in
    let k = c.loop-k.k in
    let here : f (addr + k) ≡ false = sym (ap₂ (λ (x y : ℕ). f (x + y)) c.from.ensures c.from-in-loop-k.ensures) ∙ sym c.touches_memory.ensures ∙ c.if-touches_memory.false in
    sym (some_at f addr size k c.loop-k-test.true ∙ ap (λ (b : Bool). b || some_byte f (addr + (k + 1)) (size - (k + 1))) here) ∙ c.loop-k.invariant
