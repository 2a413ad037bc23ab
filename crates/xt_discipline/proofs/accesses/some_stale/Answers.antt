use Rattle.std.proofs.Common.{◌≡◌, ℕ, ◌+◌, ◌-◌, Bool, false, ◌||◌, sym, ◌∙◌, ap}
use Rattle.xt_frames.specs.Breaches.{some_byte}
use Rattle.xt_discipline.specs.declared.bytes.Held.{Held}
use Rattle.xt_discipline.specs.ByteMarks.{held_at}
use Rattle.xt_discipline.proofs.Marks.{some_at}
use Rattle.xt_discipline.proofs.accesses.some_stale.Goals as goal

pub loop-k-preserved : goal.loop-k-preserved
loop-k-preserved c =
    let f : ℕ → Bool = λ a. (held_at c.args.marks.now a).stale in
    let k = c.loop-k.k in
    let here : f (c.args.addr + k) ≡ false = sym (ap (λ (h : Held). h.stale) c.held_at.ensures) ∙ c.if-held_at.false in
    sym (some_at f c.args.addr c.args.size k c.loop-k-test.true ∙ ap (λ (b : Bool). b || some_byte f (c.args.addr + (k + 1)) (c.args.size - (k + 1))) here) ∙ c.loop-k.invariant
