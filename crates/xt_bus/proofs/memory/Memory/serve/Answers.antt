use Rattle.std.proofs.Common.{refl, rules}
use Rattle.std.specs.Vec.{with_items}
use Rattle.std.proofs.lemmas.List.{with_items_is, places}
use Rattle.xt_map.specs.declared.regions.Region.TheVariants.{RtcFastData, Dram, RtcSlow}
use Rattle.xt_bus.specs.Keeps.{state_in}
use Rattle.xt_bus.proofs.Located.{replied_at_place, served_at_place}
use Rattle.xt_bus.proofs.memory.Memory.serve.Goals as goal

pub returns-in-RtcFastData-clause-reply : goal.returns-in-RtcFastData-clause-reply
returns-in-RtcFastData-clause-reply c =
    replied_at_place RtcFastData (state_in c.self.inside) c.args.self.now c.deref_mut.result.now c.in-RtcFastData.at c.args.access c.act.result
    c.self.view_is refl c.requires.access c.in-RtcFastData.ensures.0 c.in-RtcFastData.ensures.1 c.deref_mut.ensures.value c.act.ensures.reply

pub returns-in-RtcFastData-clause-state : goal.returns-in-RtcFastData-clause-state
returns-in-RtcFastData-clause-state c =
    served_at_place RtcFastData (state_in c.self.inside) c.args.self.now c.deref_mut.result.now c.act.new.bytes (with_items c.self.inside.rtc_fast_data c.act.new.bytes).items c.in-RtcFastData.at c.args.access
    c.self.view_is refl c.requires.access c.in-RtcFastData.ensures.0 c.in-RtcFastData.ensures.1 c.deref_mut.ensures.value c.act.ensures.after
    (with_items_is c.self.inside.rtc_fast_data c.act.new.bytes (search (rules, places)))

pub returns-in-Dram-clause-reply : goal.returns-in-Dram-clause-reply
returns-in-Dram-clause-reply c =
    replied_at_place Dram (state_in c.self-in-Dram.inside) c.args.self.now c.deref_mut-in-Dram.result.now c.in-Dram.at c.args.access c.act-in-Dram.result
    c.self-in-Dram.view_is refl c.requires.access c.in-Dram.ensures.0 c.in-Dram.ensures.1 c.deref_mut-in-Dram.ensures.value c.act-in-Dram.ensures.reply

pub returns-in-Dram-clause-state : goal.returns-in-Dram-clause-state
returns-in-Dram-clause-state c =
    served_at_place Dram (state_in c.self-in-Dram.inside) c.args.self.now c.deref_mut-in-Dram.result.now c.act-in-Dram.new.bytes (with_items c.self-in-Dram.inside.dram c.act-in-Dram.new.bytes).items c.in-Dram.at c.args.access
    c.self-in-Dram.view_is refl c.requires.access c.in-Dram.ensures.0 c.in-Dram.ensures.1 c.deref_mut-in-Dram.ensures.value c.act-in-Dram.ensures.after
    (with_items_is c.self-in-Dram.inside.dram c.act-in-Dram.new.bytes (search (rules, places)))

pub returns-in-RtcSlow-clause-reply : goal.returns-in-RtcSlow-clause-reply
returns-in-RtcSlow-clause-reply c =
    replied_at_place RtcSlow (state_in c.self-in-RtcSlow.inside) c.args.self.now c.deref_mut-in-RtcSlow.result.now c.in-RtcSlow.at c.args.access c.act-in-RtcSlow.result
    c.self-in-RtcSlow.view_is refl c.requires.access c.in-RtcSlow.ensures.0 c.in-RtcSlow.ensures.1 c.deref_mut-in-RtcSlow.ensures.value c.act-in-RtcSlow.ensures.reply

pub returns-in-RtcSlow-clause-state : goal.returns-in-RtcSlow-clause-state
returns-in-RtcSlow-clause-state c =
    served_at_place RtcSlow (state_in c.self-in-RtcSlow.inside) c.args.self.now c.deref_mut-in-RtcSlow.result.now c.act-in-RtcSlow.new.bytes (with_items c.self-in-RtcSlow.inside.rtc_slow c.act-in-RtcSlow.new.bytes).items c.in-RtcSlow.at c.args.access
    c.self-in-RtcSlow.view_is refl c.requires.access c.in-RtcSlow.ensures.0 c.in-RtcSlow.ensures.1 c.deref_mut-in-RtcSlow.ensures.value c.act-in-RtcSlow.ensures.after
    (with_items_is c.self-in-RtcSlow.inside.rtc_slow c.act-in-RtcSlow.new.bytes (search (rules, places)))
