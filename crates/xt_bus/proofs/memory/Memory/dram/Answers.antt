use Rattle.std.proofs.Common.{refl, ◌∙◌}
use Rattle.xt_map.specs.declared.regions.Region.TheVariants.{Dram}
use Rattle.xt_bus.specs.Keeps.{state_in}
use Rattle.xt_bus.proofs.Located.{part_in_place}
use Rattle.xt_bus.proofs.memory.Memory.dram.Goals as goal

pub returns : goal.returns
returns c =
    part_in_place Dram (state_in c.self.inside) c.args.self.now c.as_slice.result.now c.self.view_is refl c.as_slice.ensures.value
    (c.as_slice.ensures.len ∙ c.self.invariant.dram)
