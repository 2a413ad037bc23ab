use Rattle.std.proofs.Common.{◌≡◌, ℕ, ◌+◌, ◌-◌, Bool, false, ◌||◌, sym, ◌∙◌, ap}
use Rattle.xt_frames.specs.Breaches.{some_byte}
use Rattle.xt_discipline.proofs.Marks.{some_at}
use Rattle.xt_judged.specs.Stales.{among}
use Rattle.xt_judged.proofs.bytes.some_stale.Goals as goal

pub loop-k-preserved : goal.loop-k-preserved
loop-k-preserved c =
    let f : ℕ → Bool = among c.args.stale.now in
    let k = c.loop-k.k in
    let here : f (c.args.addr + k) ≡ false = sym c.has.ensures ∙ c.if-has.false in
    sym (some_at f c.args.addr c.args.size k c.loop-k-test.true ∙ ap (λ (b : Bool). b || some_byte f (c.args.addr + (k + 1)) (c.args.size - (k + 1))) here) ∙ c.loop-k.invariant
