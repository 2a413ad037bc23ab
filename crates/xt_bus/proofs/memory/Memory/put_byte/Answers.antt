use Rattle.std.proofs.Common.{refl, sym, ap}
use Rattle.xt_map.specs.declared.regions.Region.TheVariants.{RtcFastData, Dram, RtcSlow}
use Rattle.xt_bus.specs.States.{memory_state}
use Rattle.xt_bus.specs.Keeps.{state_in}
use Rattle.xt_bus.proofs.Regional.{with_byte_outside}
use Rattle.xt_bus.proofs.Located.{put_at_place}
use Rattle.xt_bus.proofs.memory.Memory.put_byte.Goals as goal

pub returns-in-RtcFastData : goal.returns-in-RtcFastData
returns-in-RtcFastData c =
    put_at_place RtcFastData (state_in c.self.inside) c.args.self.now c.in-RtcFastData.at c.args.addr c.args.b c.self.view_is refl c.in-RtcFastData.ensures.0 c.in-RtcFastData.ensures.1

pub returns-in-Dram : goal.returns-in-Dram
returns-in-Dram c =
    put_at_place Dram (state_in c.self.inside) c.args.self.now c.in-Dram.at c.args.addr c.args.b c.self.view_is refl c.in-Dram.ensures.0 c.in-Dram.ensures.1

pub returns-in-RtcSlow : goal.returns-in-RtcSlow
returns-in-RtcSlow c =
    put_at_place RtcSlow (state_in c.self.inside) c.args.self.now c.in-RtcSlow.at c.args.addr c.args.b c.self.view_is refl c.in-RtcSlow.ensures.0 c.in-RtcSlow.ensures.1

pub returns-in-Outside : goal.returns-in-Outside
returns-in-Outside c = ap (λ m. memory_state m c.args.self.now.room) (sym (with_byte_outside c.args.self.now.contents c.args.addr c.args.b c.in-Outside.ensures))
