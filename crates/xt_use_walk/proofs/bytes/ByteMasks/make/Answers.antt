use Rattle.std.proofs.Common.{◌≡◌, arith}
use Rattle.xt_use_walk.proofs.Places.{all_known}
use Rattle.xt_use_walk.proofs.bytes.ByteMasks.make.Goals as goal

pub returns-clause-known : goal.returns-clause-known
returns-clause-known c a h =
    let end = c.loop-byte.auto._byte-end in
    let last = c.loop-byte-test.false in
    let all : c.loop-byte._byte ≡ 0x56000 = omega (arith, end, last) in
    all_known c.loop-byte.masks.items c.loop-byte._byte a c.loop-byte.invariant all h
