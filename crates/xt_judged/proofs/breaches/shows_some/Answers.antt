use Rattle.std.specs.Prelude.{is_some}
use Rattle.std.proofs.Common.{◌≡◌, ◌≢◌, ℕ, ◌+◌, ◌<◌, ◌≤◌, length, refl, ap, ◌∙◌, subst, ⊎_elim, arith}
use Rattle.std.proofs.lemmas.Bool.{cases_eq}
use Rattle.std.proofs.lemmas.Option.{slice_get_read}
use Rattle.xt_search.specs.Graphs.{IsAt}
use Rattle.xt_search.proofs.Numbers.{at_kept, at_once, at_within}
use Rattle.xt_judged.proofs.Every.{not_some}
use Rattle.xt_judged.proofs.breaches.shows_some.Goals as goal

pub loop-number-preserved : goal.loop-number-preserved
loop-number-preserved g c = λ k w lo at.
    let ks = c.args.graph.now.kept.items in
    let n = c.loop-number.number in
    let x = c.index.result.now in
    let many : c.len-number-end.result ≡ length ks = c.len-number-end.ensures ∙ c.args.graph.now.kept.ok.0 in
    let less : n < c.len-number-end.result = c.loop-number-test.true in
    let here = at_kept ks n x (slice_get_read ks (length ks) n x refl (omega arith) c.index.ensures) in
    ⊎_elim
    (λ (is : k ≡ n).
    let e : w ≡ x.world = at_once ks n w x.world (subst (λ (j : ℕ). IsAt ks j w) is at) here in
    ap g.W.Met.shows e ∙ not_some (g.W.Met.shows x.world) c.is_some.result (c.is_some.ensures ∙ ap is_some c.breach.ensures) c.if-is_some.false)
    (λ (isnt : k ≢ n).
    let other : ¬ (k ≡ n) = isnt in
    let below : k < n + 1 = lo in
    c.loop-number.invariant k w (omega arith) at)
    (cases_eq k n)

pub returns : goal.returns
returns g c = λ t k w at.
    let ks = c.args.graph.now.kept.items in
    let many : c.len-number-end.result ≡ length ks = c.len-number-end.ensures ∙ c.args.graph.now.kept.ok.0 in
    let past : c.len-number-end.result ≤ c.loop-number.number = c.loop-number-test.false in
    let within : k < length ks = at_within ks k w at in
    c.loop-number.invariant k w (omega arith) at
