use Rattle.std.proofs.Common.{◌∙◌}
use Rattle.xt_map.specs.Memory.{constant_byte}
use Rattle.xt_exec.specs.Chips.{processor}
use Rattle.xt_machine.specs.Shorts.{world_of}
use Rattle.xt_machine.proofs.Rests.{is_some, rest_after}
use Rattle.xt_machine.proofs.pair.Pair.finish1.Goals as goal

pub turns-preserved : goal.turns-preserved
turns-preserved c = record {
  world = rest_after (processor (constant_byte c.args.code.now)) 1 (world_of c.turns.self) (world_of c.give1.new.self)
      (is_some c.turns.self.core1.left c.give1.result c.turns-test.true c.give1.ensures.made) c.give1.ensures.world
      ∙ c.turns.invariant.world;
  other = c.give1.ensures.other ∙ c.turns.invariant.other;
}
