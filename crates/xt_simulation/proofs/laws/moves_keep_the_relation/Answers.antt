use Rattle.xt_simulation.proofs.Closed.{spills, fills}
use Rattle.xt_simulation.proofs.Stretched.{overflows_keep_related, underflows_keep_related}
use Rattle.xt_simulation.proofs.laws.moves_keep_the_relation.Goals as goal

pub returns-clause-spills : goal.returns-clause-spills
returns-clause-spills c = spills

pub returns-clause-fills : goal.returns-clause-fills
returns-clause-fills c = fills

pub returns-clause-overflows : goal.returns-clause-overflows
returns-clause-overflows c = overflows_keep_related

pub returns-clause-underflows : goal.returns-clause-underflows
returns-clause-underflows c = underflows_keep_related
