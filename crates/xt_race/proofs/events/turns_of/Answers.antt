use Rattle.std.proofs.Common.{ap, length, arith}
use Rattle.xt_race.proofs.Bounds.{records_fit}
use Rattle.xt_race.proofs.events.turns_of.Goals as goal

pub invariant_of-result : goal.invariant_of-result
invariant_of-result c =
    let few = records_fit c.args.core c.args.image.now c.args.run.now c.requires.core c.requires.run in
    record { room = omega (arith, few, ap length c.in_ok-cursor.ensures) }
