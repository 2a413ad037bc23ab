use Rattle.xt_sharedbus.proofs.Steps.{opens, takes, finds, gives, gives_same, forks, merges}
use Rattle.xt_sharedbus.proofs.laws.steps_keep_rule.Goals as goal

pub returns-clause-open : goal.returns-clause-open
returns-clause-open c = opens

pub returns-clause-take : goal.returns-clause-take
returns-clause-take c = takes

pub returns-clause-empty : goal.returns-clause-empty
returns-clause-empty c = finds

pub returns-clause-give_back : goal.returns-clause-give_back
returns-clause-give_back c = gives

pub returns-clause-give_back_same : goal.returns-clause-give_back_same
returns-clause-give_back_same c = gives_same

pub returns-clause-split : goal.returns-clause-split
returns-clause-split c = forks

pub returns-clause-join : goal.returns-clause-join
returns-clause-join c = merges
