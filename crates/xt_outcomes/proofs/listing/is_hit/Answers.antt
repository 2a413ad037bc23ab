use Rattle.std.proofs.Common.{sym, ◌∙◌}
use Rattle.xt_outcomes.proofs.Adding.{hit_at, none_at, same_at}
use Rattle.xt_outcomes.proofs.listing.is_hit.Goals as goal

pub returns-in-Some-clause-hit : goal.returns-in-Some-clause-hit
returns-in-Some-clause-hit c = λ t.
    let l = c.in-Some.ensures.lookup in
    (c.in-Some.found.now, hit_at c.args.list.now c.args.place c.in-Some.found.now l.3.0 l.1, sym c.is_same.ensures ∙ t)

pub returns-in-Some-clause-miss : goal.returns-in-Some-clause-miss
returns-in-Some-clause-miss c = λ f x at.
    let l = c.in-Some.ensures.lookup in
    same_at c.args.list.now c.args.place c.in-Some.found.now x c.args.outcome.now l.3.0 l.1 at (sym c.is_same.ensures ∙ f)

pub returns-in-None-clause-miss : goal.returns-in-None-clause-miss
returns-in-None-clause-miss c = λ f x at. absurd (none_at c.args.list.now c.args.place x c.in-None.ensures.lookup.0 at)
