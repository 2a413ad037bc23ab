use Rattle.std.specs.Prelude.{option_copied}
use Rattle.std.proofs.Common.{◌≡◌, ℕ, ◌+◌, ◌-◌, Bool, false, ◌||◌, sym, ◌∙◌, ap}
use Rattle.xt_frames.specs.Breaches.{some_byte}
use Rattle.xt_discipline.proofs.Marks.{some_at}
use Rattle.xt_judged.specs.Lives.{is_live_in}
use Rattle.xt_judged.proofs.Areas.{none_byte}
use Rattle.xt_judged.proofs.bytes.some_live.Goals as goal

pub loop-k-preserved : goal.loop-k-preserved
loop-k-preserved c =
    let f : ℕ → Bool = is_live_in c.args.own.now (option_copied c.args.other) in
    let k = c.loop-k.k in
    let here : f (c.args.addr + k) ≡ false = sym c.is_live_in.ensures ∙ c.if-is_live_in.false in
    sym (some_at f c.args.addr c.args.size k c.loop-k-test.true ∙ ap (λ (b : Bool). b || some_byte f (c.args.addr + (k + 1)) (c.args.size - (k + 1))) here) ∙ c.loop-k.invariant

pub returns-then-not-may_be_live_in : goal.returns-then-not-may_be_live_in
returns-then-not-may_be_live_in c =
    sym (none_byte (is_live_in c.args.own.now (option_copied c.args.other)) c.args.addr c.args.size (c.may_be_live_in.ensures c.if-not-may_be_live_in.true))
