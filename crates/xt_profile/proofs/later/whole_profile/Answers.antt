use Rattle.xt_profile.proofs.PastCut.{checked_sum, past_cut, unchecked_sum}
use Rattle.xt_profile.proofs.later.whole_profile.Goals as goal

pub returns-then-not-are_yes-clause-sums : goal.returns-then-not-are_yes-clause-sums
returns-then-not-are_yes-clause-sums c =
    unchecked_sum c.args.depth c.args.image.now c.args.run.now c.in_ok-after0.after0 c.in_ok-after1.after1 c.requires.run.trace0.count_is c.requires.run.trace1.count_is c.in_ok-after0.ensures c.in_ok-after1.ensures

pub returns-clause-sums : goal.returns-clause-sums
returns-clause-sums c =
    let image = c.args.image.now in
    let r = c.args.run.now in
    let zero = c.in_ok-zero.ensures.zero in
    let one = c.in_ok-zero.ensures.one in
    checked_sum c.args.depth image r c.in_ok-zero.zero.profile c.in_ok-zero.one.profile c.in_ok-after0-2.after0 c.in_ok-after1-2.after1 zero.adds_up one.adds_up zero.profile_is one.profile_is
    (past_cut 0 c.args.depth image r r.trace0.count c.in_ok-zero.zero c.in_ok-after0-2.after0 zero c.in_ok-after0-2.ensures)
    (past_cut 1 c.args.depth image r r.trace1.count c.in_ok-zero.one c.in_ok-after1-2.after1 one c.in_ok-after1-2.ensures)
