use Rattle.std.proofs.Common.{◌≡◌, ◌≢◌, ℕ, ◌+◌, ◌<◌, ◌≤◌, true, length, refl, sym, ap, ◌∙◌, subst, ⊎_elim, arith, Some, slice_get}
use Rattle.std.proofs.lemmas.Bool.{cases_eq}
use Rattle.std.proofs.lemmas.Option.{slice_get_read}
use Rattle.xt_outcomes.proofs.Continuing.{all_can_end, is_stuck}
use Rattle.xt_outcomes.proofs.Finding.{graph_of_machine}
use Rattle.xt_outcomes.proofs.stuck.stuck_of.Goals as goal

pub marks_of-requires-clause-graph : goal.marks_of-requires-clause-graph
marks_of-requires-clause-graph c = graph_of_machine c.args.image.now c.args.options.now c.args.search.now c.requires.search

pub returns-then-not-index-clause-stuck : goal.returns-then-not-index-clause-stuck
returns-then-not-index-clause-stuck c =
    let marks = c.in_ok-marks.marks.items in
    let n = c.loop-number.number in
    let many : c.len-number-end.result ≡ length marks = c.len-number-end.ensures ∙ c.in_ok-marks.marks.ok.0 in
    let less : n < c.len-number-end.result = c.loop-number-test.true in
    let inside : n < length marks = omega arith in
    let here = slice_get_read marks (length marks) n c.index.result.now refl inside c.index.ensures ∙ ap Some c.if-not-index.true in
    is_stuck c.args.image.now c.args.options.now c.args.search.now c.requires.search c.requires.whole marks c.in_ok-marks.ensures c.in_ok-order.order.items n c.in_ok-order.ensures.order inside
    here c.in_ok-order.ensures.found

pub loop-number-preserved : goal.loop-number-preserved
loop-number-preserved c = λ k lo.
    let marks = c.in_ok-marks.marks.items in
    let n = c.loop-number.number in
    let many : c.len-number-end.result ≡ length marks = c.len-number-end.ensures ∙ c.in_ok-marks.marks.ok.0 in
    let less : n < c.len-number-end.result = c.loop-number-test.true in
    let here = slice_get_read marks (length marks) n c.index.result.now refl (omega arith) c.index.ensures ∙ ap Some c.if-not-index.false in
    ⊎_elim
    (λ (is : k ≡ n). subst (λ (j : ℕ). slice_get marks j ≡ Some true) (sym is) here)
    (λ (isnt : k ≢ n).
    let other : ¬ (k ≡ n) = isnt in
    let below : k < n + 1 = lo in
    c.loop-number.invariant k (omega arith))
    (cases_eq k n)

pub returns-clause-none : goal.returns-clause-none
returns-clause-none c =
    let marks = c.in_ok-marks.marks.items in
    let many : c.len-number-end.result ≡ length marks = c.len-number-end.ensures ∙ c.in_ok-marks.marks.ok.0 in
    let past : c.len-number-end.result ≤ c.loop-number.number = c.loop-number-test.false in
    all_can_end c.args.image.now c.args.options.now c.args.search.now c.requires.search c.requires.whole marks c.in_ok-marks.ensures
    (λ k less. let within : k < length marks = less in c.loop-number.invariant k (omega arith))
