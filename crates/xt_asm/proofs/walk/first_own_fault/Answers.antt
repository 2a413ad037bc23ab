use Rattle.std.proofs.Common.{◌∙◌, pos, arith, None}
use Rattle.xt_layout.specs.Pools.{words_of}
use Rattle.xt_layout.proofs.Each.{finds_here, finds_more}
use Rattle.xt_asm.specs.Walks.{own_at, own_first}
use Rattle.xt_asm.proofs.Walking.{Long, lists_long, own_here}
use Rattle.xt_asm.proofs.walk.first_own_fault.Goals as goal

pub context_at-context-requires-clause-targets : goal.context_at-context-requires-clause-targets
context_at-context-requires-clause-targets c =
    let long : Long c.args.lines.now c.args.addresses.now c.args.targets.now = lists_long c.args.lines.now (words_of c.args.lines.now) c.args.labels.now c.args.addresses.now c.args.targets.now c.requires in
    omega (arith, long.of_targets)

pub context_at-context-requires-clause-addresses : goal.context_at-context-requires-clause-addresses
context_at-context-requires-clause-addresses c =
    let long : Long c.args.lines.now c.args.addresses.now c.args.targets.now = lists_long c.args.lines.now (words_of c.args.lines.now) c.args.labels.now c.args.addresses.now c.args.targets.now c.requires in
    omega (arith, long.of_addresses)

pub returns-in-Some : goal.returns-in-Some
returns-in-Some c =
    finds_here (own_at c.args.lines.now) c.loop-k.k c.args.lines.now c.index-lines-k.result (own_first c.args.lines.now) c.in-Some.place c.loop-k-test.true c.index-lines-k.is c.loop-k.invariant
    (c.in-Some.ensures ∙ own_here c.args.lines.now c.args.labels.now c.args.addresses.now c.args.targets.now c.loop-k.k c.index-lines-k.result c.context_at-context.result c.in_ok-made.made (pos 0) None c.requires c.loop-k-test.true c.index-lines-k.is
    c.context_at-context.ensures.labels c.context_at-context.ensures.target c.context_at-context.ensures.at c.in_ok-made.ensures.made)

pub loop-k-preserved : goal.loop-k-preserved
loop-k-preserved c =
    finds_more (own_at c.args.lines.now) c.loop-k.k c.args.lines.now c.index-lines-k.result (own_first c.args.lines.now) c.loop-k-test.true c.index-lines-k.is c.loop-k.invariant
    (c.in_default.ensures ∙ own_here c.args.lines.now c.args.labels.now c.args.addresses.now c.args.targets.now c.loop-k.k c.index-lines-k.result c.context_at-context.result c.in_ok-made.made (pos 0) None c.requires c.loop-k-test.true c.index-lines-k.is
    c.context_at-context.ensures.labels c.context_at-context.ensures.target c.context_at-context.ensures.at c.in_ok-made.ensures.made)
