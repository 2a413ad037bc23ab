use Rattle.std.proofs.Common.{◌<◌, pos, length, arith, None}
use Rattle.std.proofs.lemmas.Int.{ints}
use Rattle.xt_asm.proofs.Walking.{Long, fault_here, lists_long, site_here, walks_all, walks_more, walks_none}
use Rattle.xt_asm.proofs.walk.pieces_of.Goals as goal

pub loop-k-init : goal.loop-k-init
loop-k-init c = walks_none c.args.lines.now c.args.words.now c.args.labels.now c.args.addresses.now c.args.targets.now c.new-pieces.result.items c.requires.of c.new-pieces.ensures.items

pub context_at-context-requires-clause-targets : goal.context_at-context-requires-clause-targets
context_at-context-requires-clause-targets c =
    let long : Long c.args.lines.now c.args.addresses.now c.args.targets.now = lists_long c.args.lines.now c.args.words.now c.args.labels.now c.args.addresses.now c.args.targets.now c.requires.of in
    omega (arith, long.of_targets)

pub context_at-context-requires-clause-addresses : goal.context_at-context-requires-clause-addresses
context_at-context-requires-clause-addresses c =
    let long : Long c.args.lines.now c.args.addresses.now c.args.targets.now = lists_long c.args.lines.now c.args.words.now c.args.labels.now c.args.addresses.now c.args.targets.now c.requires.of in
    omega (arith, long.of_addresses)

pub piece_of-requires-clause-at : goal.piece_of-requires-clause-at
piece_of-requires-clause-at c =
    let long : Long c.args.lines.now c.args.addresses.now c.args.targets.now = lists_long c.args.lines.now c.args.words.now c.args.labels.now c.args.addresses.now c.args.targets.now c.requires.of in
    let within : c.loop-k.k < length c.args.addresses.now = omega (arith, long.of_addresses) in
    omega (arith, ints, c.context_at-context.ensures.at, c.requires.of.near c.loop-k.k (pos 0) within)

pub returns-in-Err-clause-fault : goal.returns-in-Err-clause-fault
returns-in-Err-clause-fault c =
    fault_here c.args.lines.now c.loop-k.k c.index-lines-k.result c.loop-k.rest.now c.loop-k.pieces.items c.context_at-context.result c.in-Err.fault c.loop-k-test.true c.index-lines-k.is c.loop-k.invariant
    (site_here c.args.lines.now c.args.words.now c.args.labels.now c.args.addresses.now c.args.targets.now c.loop-k.k c.index-lines-k.result c.context_at-context.result (pos 0) None c.requires.of c.loop-k-test.true c.index-lines-k.is
    c.context_at-context.ensures.labels c.context_at-context.ensures.target c.context_at-context.ensures.at) c.in-Err.ensures.fault

pub loop-k-preserved : goal.loop-k-preserved
loop-k-preserved c =
    walks_more c.args.lines.now c.loop-k.k c.index-lines-k.result c.loop-k.rest.now c.split_at.result.1.now c.pool_width.result c.loop-k.pieces.items c.push.new.self.items c.in-Ok.piece c.context_at-context.result c.split_at.result.0.now
    c.loop-k-test.true c.index-lines-k.is c.loop-k.invariant
    (site_here c.args.lines.now c.args.words.now c.args.labels.now c.args.addresses.now c.args.targets.now c.loop-k.k c.index-lines-k.result c.context_at-context.result (pos 0) None c.requires.of c.loop-k-test.true c.index-lines-k.is
    c.context_at-context.ensures.labels c.context_at-context.ensures.target c.context_at-context.ensures.at)
    c.pool_width.ensures.width c.split_at.ensures.front c.split_at.ensures.back c.in-Ok.ensures.piece c.in-Ok.ensures.clear c.in_ok-push-in-Ok.ensures.items

pub returns-clause-pieces : goal.returns-clause-pieces
returns-clause-pieces c = walks_all c.args.lines.now c.loop-k.k c.loop-k.rest.now c.loop-k.pieces.items c.loop-k-test.false c.loop-k.invariant
