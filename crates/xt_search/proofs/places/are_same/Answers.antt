use Rattle.std.proofs.Common.{◌≡◌, ◌<◌, ◌≤◌, length, arith}
use Rattle.std.proofs.lemmas.List.{ext_get_or}
use Rattle.xt_search.specs.declared.changes.Change.{Change}
use Rattle.xt_search.proofs.places.are_same.Goals as goal

pub returns-clause-same : goal.returns-clause-same
returns-clause-same c = λ t.
    let none : Change = record { addr = 0; byte = 0 } in
    let long : length c.args.changes.now ≡ length c.args.others.now = omega arith in
    let whole : length c.args.changes.now ≤ c.loop-at.at = c.loop-at-test.false in
    ext_get_or none c.args.changes.now c.args.others.now long
    (λ i less. c.loop-at.invariant i none (let h : i < length c.args.changes.now = less in omega arith))
