use Rattle.std.specs.Cmp.{booleans_Decides}
use Rattle.std.proofs.lemmas.Slice.Eq.{slice_eq-Decides}
use Rattle.xt_frames.proofs.snapshots.are_same_unset.Goals as goal

pub returns-clause-same : goal.returns-clause-same
returns-clause-same c = (slice_eq-Decides booleans_Decides c.args.a.now c.args.b.now c.eq.result c.eq.ensures).0

pub returns-clause-equal : goal.returns-clause-equal
returns-clause-equal c = (slice_eq-Decides booleans_Decides c.args.a.now c.args.b.now c.eq.result c.eq.ensures).1
