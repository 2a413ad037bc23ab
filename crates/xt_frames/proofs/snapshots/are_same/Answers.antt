use Rattle.std.proofs.Common.{◌≡◌, ◌<◌, ◌≤◌, length, arith}
use Rattle.xt_frames.proofs.Newest.{nobody, caller_moves}
use Rattle.xt_frames.proofs.Same.{same_frames}
use Rattle.xt_frames.proofs.snapshots.are_same.Goals as goal

pub is_same_caller-requires : goal.is_same_caller-requires
is_same_caller-requires c =
    let less : c.loop-n.n < length c.args.a.now = c.loop-n-test.true in
    let three = (caller_moves c.args.a.now c.loop-n.n nobody c.requires less).1 in
    omega (arith, three)

pub returns : goal.returns
returns c = λ t.
    let a = c.args.a.now in
    let b = c.args.b.now in
    let whole : length a ≤ c.loop-n.n = c.loop-n-test.false in
    let long : length a ≡ length b = c.if-a-b.false in
    same_frames a b long (λ k less. c.loop-n.invariant k (omega (arith, whole, less)))
