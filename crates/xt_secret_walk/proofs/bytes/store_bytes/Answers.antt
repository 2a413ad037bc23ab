use Rattle.std.proofs.Common.{ℕ, Bool, ◌+◌, ◌∙◌, arith}
use Rattle.xt_use_walk.proofs.Places.{byte_small}
use Rattle.xt_simulation.specs.WatchedRuns.{has_byte_at}
use Rattle.xt_use_walk.specs.MaskedBytes.{mask_at}
use Rattle.xt_secret_walk.proofs.Storing.{hides_more, kept_is, one_stored}
use Rattle.xt_secret_walk.proofs.bytes.store_bytes.Goals as goal

pub overflow_add-addr : goal.overflow_add-addr
overflow_add-addr c =
    let more = c.loop-k-test.true in
    let s = byte_small (c.args.addr + c.loop-k.k) (c.requires.bytes (c.args.addr + c.loop-k.k) (omega arith) (omega (arith, more))) in
    omega (arith, s)

pub overflow_add-addr-in-loop-k : goal.overflow_add-addr-in-loop-k
overflow_add-addr-in-loop-k c =
    let more = c.loop-k-test.true in
    let s = byte_small (c.args.addr + c.loop-k.k) (c.requires.bytes (c.args.addr + c.loop-k.k) (omega arith) (omega (arith, more))) in
    omega (arith, s)

pub loop-k-preserved : goal.loop-k-preserved
loop-k-preserved c =
    let i = c.loop-k.invariant in
    let public : ℕ → Bool = has_byte_at c.args.public.now in
    let stored = c.args.stored in
    let addr = c.args.addr in
    let k = c.loop-k.k in
    let mask = c.kept_byte-mask.result in
    let is = kept_is public stored addr k c.stored_byte.result mask (c.stored_byte.ensures addr) c.kept_byte-mask.ensures in (
      c.put.ensures.full,
      one_stored public (mask_at c.args.masks.now) c.loop-k.masks c.put.new.self stored addr k mask is i.1 c.put.ensures.put,
      c.is_either-hides.ensures ∙ hides_more public stored addr k mask c.loop-k.hides i.2 is,
    )
