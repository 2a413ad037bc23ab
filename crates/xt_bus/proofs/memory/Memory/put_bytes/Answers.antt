use Rattle.std.proofs.Common.{sym, ap, ◌∙◌}
use Rattle.xt_bus.specs.States.{memory_state}
use Rattle.xt_bus.proofs.Loaded.{apart_none, bytes_more}
use Rattle.xt_bus.proofs.memory.Memory.put_bytes.Goals as goal

pub returns-then-is_apart : goal.returns-then-is_apart
returns-then-is_apart c =
    ap (λ m. memory_state m c.args.self.now.room) (sym (apart_none c.args.self.now.contents c.args.addr c.args.bytes.now (sym c.is_apart.ensures ∙ c.if-is_apart.true)))

pub loop-i-preserved : goal.loop-i-preserved
loop-i-preserved c = c.put_byte.ensures ∙ bytes_more c.args.self.now c.loop-i.self c.args.addr c.args.bytes.now c.loop-i.i c.loop-i.invariant c.loop-i-test.true
