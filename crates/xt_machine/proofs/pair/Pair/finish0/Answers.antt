use Rattle.std.proofs.Common.{◌∙◌}
use Rattle.xt_map.specs.Memory.{constant_byte}
use Rattle.xt_exec.specs.Chips.{processor}
use Rattle.xt_machine.specs.Shorts.{world_of}
use Rattle.xt_machine.proofs.Rests.{is_some, rest_after}
use Rattle.xt_machine.proofs.pair.Pair.finish0.Goals as goal

pub turns-preserved : goal.turns-preserved
turns-preserved c =
    rest_after (processor (constant_byte c.args.code.now)) 0 (world_of c.turns.self) (world_of c.give0.new.self)
    (is_some c.turns.self.core0.left c.give0.result c.turns-test.true c.give0.ensures.made) c.give0.ensures.world
    ∙ c.turns.invariant
