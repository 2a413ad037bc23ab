use Rattle.std.proofs.Common.{◌≡◌, ◌≢◌, ℕ, ◌+◌, ◌<◌, ◌≤◌, length, refl, sym, ◌∙◌, subst, ⊎_elim, arith}
use Rattle.std.proofs.lemmas.Bool.{cases_eq}
use Rattle.std.proofs.lemmas.Option.{slice_get_read}
use Rattle.xt_map.specs.Memory.{constant_byte}
use Rattle.xt_search.specs.Graphs.{IsAt}
use Rattle.xt_search.proofs.Numbers.{at_kept, at_once, at_within}
use Rattle.xt_judged.specs.WatchedKept.{AreSettled}
use Rattle.xt_judged.proofs.apart.are_settled.Goals as goal

pub loop-number-preserved : goal.loop-number-preserved
loop-number-preserved c = λ k w lo at.
    let s = c.args.search.now in
    let ks = s.graph.kept.items in
    let n = c.loop-number.number in
    let x = c.index.result.now in
    let many : c.len-number-end.result ≡ length ks = c.len-number-end.ensures ∙ s.graph.kept.ok.0 in
    let less : n < c.len-number-end.result = c.loop-number-test.true in
    let here = at_kept ks n x (slice_get_read ks (length ks) n x refl (omega arith) c.index.ensures) in
    ⊎_elim
    (λ (is : k ≡ n).
    let e : w ≡ x.world = at_once ks n w x.world (subst (λ (j : ℕ). IsAt ks j w) is at) here in
    subst (AreSettled (constant_byte s.machine.timed.code) s.machine.places.list.items) (sym e) (c.is_settled.ensures c.if-not-is_settled.false))
    (λ (isnt : k ≢ n).
    let other : ¬ (k ≡ n) = isnt in
    let below : k < n + 1 = lo in
    c.loop-number.invariant k w (omega arith) at)
    (cases_eq k n)

pub returns : goal.returns
returns c = λ t k w at.
    let ks = c.args.search.now.graph.kept.items in
    let many : c.len-number-end.result ≡ length ks = c.len-number-end.ensures ∙ c.args.search.now.graph.kept.ok.0 in
    let past : c.len-number-end.result ≤ c.loop-number.number = c.loop-number-test.false in
    let within : k < length ks = at_within ks k w at in
    c.loop-number.invariant k w (omega arith) at
