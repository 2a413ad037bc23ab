use Rattle.std.proofs.Common.{◌≡◌, ◌∙◌, List, length, reverse, refl, subst, sym, ap, arith, rules}
use Rattle.std.specs.List.{All}
use Rattle.std.specs.Prelude.{◌++◌, IfSome}
use Rattle.std.proofs.lemmas.Option.{slice_get_read}
use Rattle.xt_map.specs.Memory.{constant_byte}
use Rattle.xt_search.specs.Graphs.{IsAt}
use Rattle.xt_search.proofs.Numbers.{at_kept, at_once, at_within}
use Rattle.xt_search.proofs.Endings.{found_parts}
use Rattle.xt_moments.specs.Moments.{IsMove}
use Rattle.xt_moments.specs.declared.moves.Move.{Move}
use Rattle.xt_moment_search.specs.Covering.{Led, LedIn}
use Rattle.xt_moment_search.specs.Stuckness.{IsPath, MovesLead}
use Rattle.xt_moment_search.specs.declared.machine.Step.{Step}
use Rattle.xt_moment_search.specs.declared.worlds.World.{World}
use Rattle.xt_moment_search.proofs.Ended.{more_moves, paths_back}
use Rattle.xt_moment_search.proofs.confirming.order_of.Goals as goal

pub loop-at-smaller : goal.loop-at-smaller
loop-at-smaller c =
    let ks = c.args.graph.now.kept.items in
    let x = c.index-kept.result.now in
    let here = slice_get_read ks (length ks) c.loop-at.at x refl c.loop-at.invariant.within c.index-kept.ensures in
    (found_parts (LedIn c.args.machine.now.ground) ks c.loop-at.at x c.loop-at-test.true (c.requires.graph.found c.loop-at.at x here)).1

pub index-before-requires : goal.index-before-requires
index-before-requires c =
    let ks = c.args.graph.now.kept.items in
    let x = c.index-kept.result.now in
    let here = slice_get_read ks (length ks) c.loop-at.at x refl c.loop-at.invariant.within c.index-kept.ensures in
    let p = found_parts (LedIn c.args.machine.now.ground) ks c.loop-at.at x c.loop-at-test.true (c.requires.graph.found c.loop-at.at x here) in
    let within = at_within ks x.from p.0 p.3 in
    let len : c.args.graph.now.kept.len ≡ length ks = search rules in
    omega (arith, within, len)

pub moves_back-requires-clause-led : goal.moves_back-requires-clause-led
moves_back-requires-clause-led c =
    let g = c.args.machine.now.ground in
    let ks = c.args.graph.now.kept.items in
    let x = c.index-kept.result.now in
    let y = c.index-before.result.now in
    let here = slice_get_read ks (length ks) c.loop-at.at x refl c.loop-at.invariant.within c.index-kept.ensures in
    let p = found_parts (LedIn g) ks c.loop-at.at x c.loop-at-test.true (c.requires.graph.found c.loop-at.at x here) in
    let within = at_within ks x.from p.0 p.3 in
    let there = at_kept ks x.from y (slice_get_read ks (length ks) x.from y refl within c.index-before.ensures) in
    subst (λ (s : Step). Led (constant_byte g.code) g.opening.contents g.cleared.contents s y.world x.world)
    (sym c.in_ok-step.ensures.step)
    (subst (λ (u : World). LedIn g x.core u x.world) (at_once ks x.from p.0 y.world p.3 there) p.4)

pub loop-at-preserved : goal.loop-at-preserved
loop-at-preserved c =
    let g = c.args.machine.now.ground in
    let ks = c.args.graph.now.kept.items in
    let xs = c.loop-at.order.items in
    let x = c.index-kept.result.now in
    let y = c.index-before.result.now in
    let here = slice_get_read ks (length ks) c.loop-at.at x refl c.loop-at.invariant.within c.index-kept.ensures in
    let p = found_parts (LedIn g) ks c.loop-at.at x c.loop-at-test.true (c.requires.graph.found c.loop-at.at x here) in
    let within = at_within ks x.from p.0 p.3 in
    let there = at_kept ks x.from y (slice_get_read ks (length ks) x.from y refl within c.index-before.ensures) in
    let ms = c.in-Some.moves.items in
    let path = subst (λ r. IfSome r (λ m. IsPath g (reverse m.items) y.world x.world)) c.in-Some.is c.in_ok-back.ensures in
    let pushed : c.extend_from_slice.new.self.items ≡ xs ++ ms = c.in_ok-extend_from_slice.ensures.items ∙ ap (λ l. xs ++ l) c.as_slice.ensures.value in
    record {
      within = within;
      moves = subst (λ (l : List Move). All IsMove (reverse l)) (sym pushed) (more_moves g ms xs path.are_moves c.loop-at.invariant.moves);
      path = λ v w hv hw.
          let led = subst (λ (u : World). IsPath g (reverse ms) u x.world) (at_once ks x.from y.world v there hv) path in
          subst (λ (l : List Move). IsPath g (reverse l) v w) (sym pushed)
          (paths_back g ms xs v x.world w led (c.loop-at.invariant.path x.world w (at_kept ks c.loop-at.at x here) hw));
    }

pub returns-clause-leads : goal.returns-clause-leads
returns-clause-leads c = λ v w hv hw.
    let ks = c.args.graph.now.kept.items in
    let last = c.loop-at-test.false in
    let none : c.loop-at.at ≡ 0 = omega (arith, last) in
    subst (λ (l : List Move). MovesLead c.args.machine.now.ground l v w) (sym c.reverse.ensures.items)
    (c.loop-at.invariant.path v w (subst (λ k. IsAt ks k v) (sym none) hv) hw).leads
