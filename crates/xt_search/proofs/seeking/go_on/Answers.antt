use Rattle.std.proofs.Common.{◌≡◌, length, arith}
use Rattle.xt_search.proofs.seeking.go_on.Goals as goal

pub loop-round-init : goal.loop-round-init
loop-round-init g c =
    let one : length c.args.graph.now.kept.items ≡ 1 = c.requires.one in
    record { kept = c.requires.kept; more = λ k w i. i; made = c.requires.none; within = omega arith; free = c.requires.free }

pub settle-requires-clause-kept : goal.settle-requires-clause-kept
settle-requires-clause-kept g c = c.loop-round.invariant.kept

pub settle-requires-clause-free : goal.settle-requires-clause-free
settle-requires-clause-free g c = c.loop-round.invariant.free
