use Rattle.std.proofs.Common.{◌≡◌, length, List, [], ◌∷◌, ℕ, reverse, refl, sym, ap, ◌∙◌, subst}
use Rattle.std.proofs.lemmas.List.{reverse-append}
use Rattle.std.proofs.lemmas.Option.{slice_get_read}
use Rattle.xt_search.specs.Worlds.{IsOrder, Reaches}
use Rattle.xt_search.proofs.Numbers.{at_kept, at_once, at_within}
use Rattle.xt_search.proofs.Endings.{found_parts}
use Rattle.xt_search.proofs.orders.order_to.Goals as goal

pub loop-at-smaller : goal.loop-at-smaller
loop-at-smaller g c =
    let ks = c.args.graph.now.kept.items in
    let x = c.index-kept.result.now in
    let here = slice_get_read ks (length ks) c.loop-at.at x refl c.loop-at.invariant.within c.index-kept.ensures in
    (found_parts (g.M.Machine.Leads c.args.machine.now) ks c.loop-at.at x c.loop-at-test.true (c.requires.graph.found c.loop-at.at x here)).1

pub loop-at-preserved : goal.loop-at-preserved
loop-at-preserved g c =
    let W = g.row.M-World.Denot in
    let Leads = g.M.Machine.Leads c.args.machine.now in
    let ks = c.args.graph.now.kept.items in
    let x = c.index-kept.result.now in
    let here = slice_get_read ks (length ks) c.loop-at.at x refl c.loop-at.invariant.within c.index-kept.ensures in
    let p = found_parts Leads ks c.loop-at.at x c.loop-at-test.true (c.requires.graph.found c.loop-at.at x here) in
    let e : reverse c.push.new.self.items ≡ x.core ∷ reverse c.loop-at.cores.items = ap reverse c.in_ok-push.ensures.items ∙ reverse-append c.loop-at.cores.items (x.core ∷ []) in
    record {
      within = at_within ks x.from p.0 p.3;
      order = subst IsOrder (sym e) (p.2, c.loop-at.invariant.order);
      leads = λ v w hv hw.
          subst (λ (l : List ℕ). Reaches Leads l v w) (sym e) (
            x.world,
            subst (λ (u : g.row.M-World.Denot). Leads x.core u x.world) (at_once ks x.from p.0 v p.3 hv) p.4,
            c.loop-at.invariant.leads x.world w (at_kept ks c.loop-at.at x here) hw,
          );
    }
