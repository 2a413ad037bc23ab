use Rattle.std.specs.Prelude.{option_copied}
use Rattle.std.proofs.Common.{ℕ, ◌+◌, Bool, eqb, ◌||◌, not, ◌&&◌, ap, ◌∙◌}
use Rattle.xt_judged.specs.Lives.{is_live_in}
use Rattle.xt_judged.specs.Stales.{among}
use Rattle.xt_judged.proofs.Gathered.{none_gone, one_on}
use Rattle.xt_judged.proofs.gone.add_gone.Goals as goal

pub loop-k-init : goal.loop-k-init
loop-k-init c = λ a. none_gone (is_live_in c.args.own.now (option_copied c.args.other)) c.args.from a (among c.args.stale.now a)

pub loop-k-preserved : goal.loop-k-preserved
loop-k-preserved c = λ a.
    let live : ℕ → Bool = is_live_in c.args.own.now (option_copied c.args.other) in
    let k : ℕ = c.loop-k.k in
    c.in_ok-add_one.ensures a
    ∙ (ap (λ (s : Bool). (eqb (c.args.from + k) a && not (live (c.args.from + k))) || s) (c.loop-k.invariant a)
    ∙ one_on live c.args.from k a (among c.args.stale.now a))
