use Rattle.xt_frames.proofs.Same.{decided}
use Rattle.xt_frames.proofs.snapshots.are_same_values.Goals as goal

pub returns-clause-same : goal.returns-clause-same
returns-clause-same c = (decided c.args.a.now c.args.b.now c.eq.result c.eq.ensures).0

pub returns-clause-equal : goal.returns-clause-equal
returns-clause-equal c = (decided c.args.a.now c.args.b.now c.eq.result c.eq.ensures).1
