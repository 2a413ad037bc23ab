use Rattle.std.proofs.Common.{ℕ, ◌<◌, ◌^◌, sym, subst}
use Rattle.xt_layout.proofs.Walking.{near_fits, pool_fits, walks_none, walks_all, walks_more}
use Rattle.xt_layout.proofs.spots.walk_lines.Goals as goal

pub loop-k-init : goal.loop-k-init
loop-k-init c = walks_none c.args.lines.now c.args.words.now c.args.spots.now.items c.args.spans.now.items c.requires.text c.requires.no_spots c.requires.no_spans

pub close_before-requires : goal.close_before-requires
close_before-requires c = near_fits c.args.lines.now c.args.words.now c.loop-k.k c.loop-k.here c.requires.text c.loop-k.invariant.near

pub passes-here-requires-clause-pool : goal.passes-here-requires-clause-pool
passes-here-requires-clause-pool c =
    let P : ℕ → Type 0 = λ n. n < 2 ^ 32 in
    subst P (sym (c.requires.pools.sizes c.loop-k.k c.loop-k-test.true)) (pool_fits c.args.lines.now c.args.words.now c.loop-k.k c.requires.text)

pub passes-here-requires-clause-below : goal.passes-here-requires-clause-below
passes-here-requires-clause-below c = near_fits c.args.lines.now c.args.words.now c.loop-k.k c.loop-k.here c.requires.text c.loop-k.invariant.near

pub loop-k-preserved : goal.loop-k-preserved
loop-k-preserved c = walks_more c.args.lines.now c.args.words.now c.args.pools.now c.loop-k.k c.index-lines-k.result
    (record { text = c.requires.text; pools_are = c.requires.pools; lt = c.loop-k-test.true; is = c.index-lines-k.is })
    c.loop-k.here c.passes-here.result c.begins.result c.loop-k.spots.items c.push.new.self.items c.loop-k.spans.items c.close_before.new.spans.items c.loop-k.invariant
    c.in_ok-close_before.ensures c.in_ok-push.ensures.items c.begins.ensures.value c.begins.ensures.below c.passes-here.ensures.value c.passes-here.ensures.below

pub close-requires : goal.close-requires
close-requires c = near_fits c.args.lines.now c.args.words.now c.loop-k.k c.loop-k.here c.requires.text c.loop-k.invariant.near

pub returns : goal.returns
returns c = walks_all c.args.lines.now c.args.words.now c.loop-k.k c.loop-k.here c.loop-k.spots.items c.loop-k.spans.items c.close.new.spans.items c.loop-k-test.false c.loop-k.invariant c.in_ok-close.ensures
