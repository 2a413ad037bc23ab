use Rattle.std.proofs.Common.{◌+◌, ◌∙◌, arith}
use Rattle.xt_use_walk.proofs.Places.{byte_small}
use Rattle.xt_use_walk.specs.MaskedBytes.{mask_at}
use Rattle.xt_use_walk.proofs.Stores.{one_stored}
use Rattle.xt_use_walk.proofs.side.Bytes.store_bytes.Goals as goal

pub overflow_add-addr : goal.overflow_add-addr
overflow_add-addr c =
    let more = c.loop-k-test.true in
    let s = byte_small (c.args.addr + c.loop-k.k) (c.requires.bytes (c.args.addr + c.loop-k.k) (omega arith) (omega (arith, more))) in
    omega (arith, s)

pub loop-k-preserved : goal.loop-k-preserved
loop-k-preserved c =
    let i = c.loop-k.invariant in
    let p = c.put.ensures in
    (p.full, p.marks ∙ i.1, one_stored (mask_at c.args.self.now.masks) c.loop-k.self.masks c.put.new.self.masks c.args.self.now.marks.items c.loop-k.self.marks.items c.args.stored c.args.addr c.loop-k.k c.stored_byte.result i.1 (c.stored_byte.ensures c.args.addr) i.2 p.masks)
