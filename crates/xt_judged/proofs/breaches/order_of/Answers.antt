use Rattle.std.proofs.Common.{ℕ, ◌<◌, length, refl, arith}
use Rattle.std.proofs.lemmas.Option.{slice_get_read}
use Rattle.xt_outcomes.specs.Places.{turns_of}
use Rattle.xt_judged.proofs.Every.{same_cores}
use Rattle.xt_judged.proofs.Trees.{earlier, order_before}
use Rattle.xt_judged.proofs.breaches.order_of.Goals as goal

pub loop-at-smaller : goal.loop-at-smaller
loop-at-smaller g c =
    let ks = c.args.graph.now.kept.items in
    let x = c.index-kept.result.now in
    let here = slice_get_read ks (length ks) c.loop-at.at x refl c.loop-at.invariant.within c.index-kept.ensures in
    (earlier c.args.graph.now c.requires.tree c.loop-at.at x c.loop-at-test.true here).0

pub loop-at-preserved : goal.loop-at-preserved
loop-at-preserved g c =
    let ks = c.args.graph.now.kept.items in
    let x = c.index-kept.result.now in
    let at : ℕ = c.loop-at.at in
    let here = slice_get_read ks (length ks) at x refl c.loop-at.invariant.within c.index-kept.ensures in
    let f = earlier c.args.graph.now c.requires.tree at x c.loop-at-test.true here in
    let within : at < length ks = c.loop-at.invariant.within in
    let before : x.from < at = f.0 in
    record {
      within = omega (arith, within, before);
      order = order_before c.loop-at.order.items (turns_of x.core c.turns.result) c.push_turns.new.order.items c.in_ok-push_turns.ensures c.loop-at.invariant.order (same_cores x.core c.turns.result f.1);
    }
