use Rattle.std.proofs.Common.{ap, length, arith}
use Rattle.xt_events.proofs.Bounds.{records_fit}
use Rattle.xt_events.proofs.text.push_core.Goals as goal

pub counts_of-requires : goal.counts_of-requires
counts_of-requires c =
    let few = records_fit c.args.core c.args.image.now c.args.run.now c.requires.core c.requires.run in
    omega (arith, few, ap length c.in_ok-records.ensures)
