use Rattle.std.specs.Prelude.{option_copied}
use Rattle.std.proofs.Common.{◌≡◌, ℕ, Bool, true, false, eqb, ◌||◌, not, ◌&&◌, sym, ap, ◌∙◌}
use Rattle.xt_judged.specs.Lives.{is_live_in}
use Rattle.xt_judged.specs.Stales.{among}
use Rattle.xt_judged.proofs.Gathered.{not_put}
use Rattle.xt_judged.proofs.SeenAs.{and_true}
use Rattle.xt_judged.proofs.gone.add_one.Goals as goal

pub returns-then-is_live_in : goal.returns-then-is_live_in
returns-then-is_live_in c =
    let live : ℕ → Bool = is_live_in c.args.own.now (option_copied c.args.other) in
    let held : live c.args.addr ≡ true = ap live (sym c.from.ensures) ∙ (sym c.is_live_in.ensures ∙ c.if-is_live_in.true) in
    λ a. not_put (eqb c.args.addr a) (live c.args.addr) (among c.args.stale.now a) held

pub returns : goal.returns
returns c =
    let live : ℕ → Bool = is_live_in c.args.own.now (option_copied c.args.other) in
    let free : live c.args.addr ≡ false = ap live (sym c.from.ensures) ∙ (sym c.is_live_in.ensures ∙ c.if-is_live_in.false) in
    λ a. c.in_ok-add.ensures a
    ∙ (ap (λ (b : Bool). b || among c.args.stale.now a) (sym (and_true (eqb c.args.addr a)))
    ∙ ap (λ (l : Bool). (eqb c.args.addr a && not l) || among c.args.stale.now a) (sym free))
