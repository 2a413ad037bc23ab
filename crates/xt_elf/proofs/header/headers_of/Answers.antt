use Rattle.std.proofs.Common.{arith}
use Rattle.xt_elf.proofs.Walk.{goes_on, is_done}
use Rattle.xt_elf.proofs.header.headers_of.Goals as goal

pub loop-preserved : goal.loop-preserved
loop-preserved c = rw (c.in_ok-push.ensures.items, c.header_at.ensures) (record {
  found = goes_on c.loop.headers.items c.half-end.result c.loop.counter c.args.bytes.now c.loop.place _ c.loop-test.true c.loop.invariant.found;
  place = omega (arith, c.loop.invariant.place);
  count = c.loop.invariant.count;
})

pub returns : goal.returns
returns c = is_done c.loop.headers.items c.half-end.result c.loop.counter c.args.bytes.now c.loop.place _ c.loop-test.false c.loop.invariant.found
