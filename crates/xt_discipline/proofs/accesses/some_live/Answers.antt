use Rattle.std.proofs.Common.{◌≡◌, ℕ, ◌+◌, ◌-◌, Bool, false, ◌||◌, sym, ◌∙◌, ap}
use Rattle.std.proofs.lemmas.Bool.{or_from}
use Rattle.xt_frames.specs.Breaches.{some_byte}
use Rattle.xt_discipline.specs.declared.bytes.Held.{Held}
use Rattle.xt_discipline.specs.ByteMarks.{held_at, is_held}
use Rattle.xt_discipline.proofs.Marks.{some_at}
use Rattle.xt_discipline.proofs.accesses.some_live.Goals as goal

pub loop-k-preserved : goal.loop-k-preserved
loop-k-preserved c =
    let f : ℕ → Bool = λ a. is_held (held_at c.args.marks.now a) in
    let k = c.loop-k.k in
    let here : f (c.args.addr + k) ≡ false = sym (ap (λ (h : Held). is_held h) c.held_at-held.ensures) ∙ or_from _ _ c.if-held.false c.if-held-2.false in
    sym (some_at f c.args.addr c.args.size k c.loop-k-test.true ∙ ap (λ (b : Bool). b || some_byte f (c.args.addr + (k + 1)) (c.args.size - (k + 1))) here) ∙ c.loop-k.invariant
