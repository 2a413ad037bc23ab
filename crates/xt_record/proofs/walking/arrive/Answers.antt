use Rattle.std.proofs.Common.{ap, ◌∙◌}
use Rattle.xt_bus.specs.States.{MemoryState}
use Rattle.xt_record.proofs.Arriving.{bus_here, local_here}
use Rattle.xt_record.proofs.walking.arrive.Goals as goal

pub turns-preserved : goal.turns-preserved
turns-preserved c = record {
  going = local_here c.keep_due.new.setting.code c.args.setting.now.code c.args.number c.args.own.now c.args.other.now c.turns.own c.turn_begin.new.self
      c.args.setting.now.memory.contents c.turns.setting.memory.contents c.args.entries c.args.setting.now.points.items c.turns.setting.points.items
      c.keep_due.new.setting.points.items c.turns.invariant.going (c.in_ok-keep_due.ensures.code ∙ c.turns.invariant.code)
      (ap (λ (x : MemoryState). x.contents) c.turns.invariant.memory) c.in_ok-keep_due.ensures.points c.in-Local.ensures;
  memory = c.in_ok-keep_due.ensures.memory ∙ c.turns.invariant.memory;
  code = c.in_ok-keep_due.ensures.code ∙ c.turns.invariant.code;
}

pub returns-in-Bus-clause-arrives : goal.returns-in-Bus-clause-arrives
returns-in-Bus-clause-arrives c =
    bus_here c.keep_due.new.setting.code c.args.setting.now.code c.args.number c.args.own.now c.args.other.now c.turns.own c.turn_begin.new.self
    c.args.setting.now.memory.contents c.turns.setting.memory.contents c.args.entries c.in-Bus.access c.args.setting.now.points.items
    c.turns.setting.points.items c.keep_due.new.setting.points.items c.turns.invariant.going (c.in_ok-keep_due.ensures.code ∙ c.turns.invariant.code)
    (ap (λ (x : MemoryState). x.contents) c.turns.invariant.memory) c.in_ok-keep_due.ensures.points c.in-Bus.ensures
