use Rattle.std.proofs.Common.{length, refl, subst}
use Rattle.std.proofs.lemmas.Option.{slice_get_read}
use Rattle.xt_search.proofs.Numbers.{at_kept, at_once}
use Rattle.xt_search.proofs.table.is_kept.Goals as goal

pub returns-in-Some-clause-like : goal.returns-in-Some-clause-like
returns-in-Some-clause-like g c = λ t.
    let ks = c.args.kept.now in
    let l = c.in-Some.ensures.lookup in
    let x = c.in-Some.other.now in
    (x.world, at_kept ks c.args.at x (slice_get_read ks (length ks) c.args.at x refl l.3.0 l.1), c.is_same.ensures.leads t)

pub returns-in-Some-clause-differ : goal.returns-in-Some-clause-differ
returns-in-Some-clause-differ g c = λ f w at same.
    let ks = c.args.kept.now in
    let l = c.in-Some.ensures.lookup in
    let x = c.in-Some.other.now in
    let here = at_kept ks c.args.at x (slice_get_read ks (length ks) c.args.at x refl l.3.0 l.1) in
    c.is_same.ensures.differ f (subst (λ (v : g.row.M-World.Denot). g.M.Machine.Same c.args.machine.now v c.args.world.now) (at_once ks c.args.at w x.world at here) same)
