use Rattle.std.proofs.Common.{◌∙◌, arith}
use Rattle.xt_map.specs.Memory.{constant_byte}
use Rattle.xt_exec.specs.Chips.{processor}
use Rattle.xt_machine.specs.Shorts.{world_of}
use Rattle.xt_machine.proofs.Rests.{advance_more}
use Rattle.xt_machine.proofs.pair.Pair.follow.Goals as goal

pub loop-core-preserved : goal.loop-core-preserved
loop-core-preserved c =
    c.give.ensures ∙ advance_more (processor (constant_byte c.args.code.now)) c.args.schedule.now c.loop-core.core-index 0 (world_of c.args.self.now) _ (omega arith) c.loop-core.invariant
