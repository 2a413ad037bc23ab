use Rattle.std.proofs.Common.{◌≡◌, ◌∙◌, sym, subst}
use Rattle.std.proofs.lemmas.Bool.{true≢false}
use Rattle.xt_search.specs.Changed.{IsLean, contents_of}
use Rattle.xt_outcomes.specs.KeptWorlds.{spot_of}
use Rattle.xt_outcomes.proofs.timed.TimedMachine.is_same.Goals as goal

pub returns-clause-leads : goal.returns-clause-leads
returns-clause-leads c = λ t core w l.
    let m = c.args.self.now.opening.contents in
    let h = c.is_same.ensures.same t in
    let spots : spot_of m c.args.a.now ≡ spot_of m c.args.b.now = λ i. record { side0 = h.0 i; side1 = h.1 i; memory = contents_of m (h.2 i) } in
    (spots ∙ l.0, l.1, λ lean. subst (IsLean m) (sym h.2) (l.2 lean))

pub returns-clause-differ : goal.returns-clause-differ
returns-clause-differ c = λ f h. true≢false (sym (c.is_same.ensures.equal h) ∙ f)
