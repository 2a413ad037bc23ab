use Rattle.std.proofs.Common.{refl, sym}
use Rattle.xt_map.specs.declared.regions.Region.TheVariants.{RtcFastData, Dram, RtcSlow}
use Rattle.xt_bus.specs.Keeps.{state_in}
use Rattle.xt_bus.proofs.Regional.{byte_outside}
use Rattle.xt_bus.proofs.Located.{byte_at_place}
use Rattle.xt_bus.proofs.memory.Memory.byte.Goals as goal

pub returns-in-RtcFastData : goal.returns-in-RtcFastData
returns-in-RtcFastData c =
    byte_at_place RtcFastData (state_in c.self.inside) c.args.self.now c.as_slice.result.now c.in-RtcFastData.at c.args.addr c.self.view_is refl c.in-RtcFastData.ensures.0 c.in-RtcFastData.ensures.1
    c.as_slice.ensures.value

pub returns-in-Dram : goal.returns-in-Dram
returns-in-Dram c =
    byte_at_place Dram (state_in c.self.inside) c.args.self.now c.as_slice-in-Dram.result.now c.in-Dram.at c.args.addr c.self.view_is refl c.in-Dram.ensures.0 c.in-Dram.ensures.1
    c.as_slice-in-Dram.ensures.value

pub returns-in-RtcSlow : goal.returns-in-RtcSlow
returns-in-RtcSlow c =
    byte_at_place RtcSlow (state_in c.self.inside) c.args.self.now c.as_slice-in-RtcSlow.result.now c.in-RtcSlow.at c.args.addr c.self.view_is refl c.in-RtcSlow.ensures.0 c.in-RtcSlow.ensures.1
    c.as_slice-in-RtcSlow.ensures.value

pub returns-in-Outside : goal.returns-in-Outside
returns-in-Outside c = sym (byte_outside c.args.self.now.contents c.args.addr c.in-Outside.ensures)
