use Rattle.std.proofs.Common.{◌+◌, ◌<◌, ◌∷◌, length, drop, sym, ◌∙◌, ap, arith, to_z, w64, Some}
use Rattle.std.proofs.lemmas.Int.{ints}
use Rattle.std.proofs.lemmas.List.{drop_more}
use Rattle.xt_lex.specs.Values.{plus, value_of}
use Rattle.xt_lex.proofs.ValueLemmas.{plus-more, total_is_read}
use Rattle.xt_lex.proofs.values.value.Goals as goal

pub loop-term-preserved : goal.loop-term-preserved
loop-term-preserved c =
    let number = c.in-Some.number in
    let invariant = c.loop-term.invariant in
    let labels = c.args.labels.now in
    let terms = c.as_slice-term-items.result.now in
    let place = c.loop-term.term-index in
    let few : place < 1048576 = omega (arith, ap length c.as_slice-term-items.ensures, c.requires.terms, c.loop-term-test.true) in
    let total = to_z w64 c.loop-term.total-bits in
    let read = total_is_read total number place invariant.least invariant.most few c.in-Some.ensures.least c.in-Some.ensures.most in
    let cut = drop_more terms place c.term-item.result c.loop-term-test.true ∙ ap (λ x. x ∷ drop (place + 1) terms) (sym c.term-item.is) in
    record {
      sum = ap (λ n. plus (Some n) (value_of labels (drop (place + 1) terms))) read
          ∙ plus-more total number (value_of labels (drop (place + 1) terms))
          ∙ ap (λ v. plus (Some total) (plus v (value_of labels (drop (place + 1) terms)))) c.in-Some.ensures.term
          ∙ ap (λ xs. plus (Some total) (value_of labels xs)) (sym cut)
          ∙ invariant.sum;
      least = rw read (omega (arith, ints, invariant.least, c.in-Some.ensures.least));
      most = rw read (omega (arith, ints, invariant.most, c.in-Some.ensures.most));
    }
