use Rattle.std.proofs.Common.{◌≡◌, ◌∙◌, ℕ, List, get_or, length, refl, ap, subst, ⊎_elim, arith}
use Rattle.std.proofs.lemmas.Bool.{cases_eq}
use Rattle.std.proofs.lemmas.Option.{slice_get_read}
use Rattle.xt_search.specs.declared.graph.Kept.{Kept}
use Rattle.xt_search.specs.Graphs.{IsAt}
use Rattle.xt_search.proofs.Numbers.{at_kept, at_once, at_within}
use Rattle.xt_moment_search.specs.Listed.{IsListed}
use Rattle.xt_moment_search.specs.declared.worlds.World.{World}
use Rattle.xt_moment_search.proofs.found.are_told.Goals as goal

pub loop-kept-preserved : goal.loop-kept-preserved
loop-kept-preserved c = λ at v less h.
    let g = c.args.machine.now.ground in
    let ks = c.args.graph.now.kept.items in
    let index = c.loop-kept.kept-index in
    let x = c.kept-item.result in
    let value = c.deref-kept-items.ensures.value in
    let long = ap (λ (l : List (Kept World)). length l) value in
    let below = c.loop-kept-test.true in
    let end = c.loop-kept.auto.kept-index-end in
    let there = at_kept ks index x (slice_get_read ks (length ks) index x refl (omega (arith, below, end, long)) (c.kept-item.is ∙ ap (λ (l : List (Kept World)). get_or l index x) value)) in
    let here = c.in_ok-is_told.ensures c.if-not-branch.false in
    let Is : World → Type 0 = λ u. IsListed g.opening.contents g.cleared.contents c.args.words.now c.args.list.now u in
    ⊎_elim
    (λ (is : at ≡ index). subst Is (at_once ks index x.world v there (subst (λ (k : ℕ). IsAt ks k v) is h)) here)
    (λ other. c.loop-kept.invariant at v (omega (arith, less, other)) h)
    (cases_eq at index)

pub returns : goal.returns
returns c = λ yes at v h.
    let ks = c.args.graph.now.kept.items in
    let long = ap (λ (l : List (Kept World)). length l) c.deref-kept-items.ensures.value in
    let within = at_within ks at v h in
    let last = c.loop-kept-test.false in
    let end = c.loop-kept.auto.kept-index-end in
    c.loop-kept.invariant at v (omega (arith, within, last, end, long)) h
