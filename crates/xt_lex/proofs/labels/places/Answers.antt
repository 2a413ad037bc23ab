use Rattle.std.proofs.Common.{◌≡◌, ◌+◌, ◌-◌, ◌<◌, ◌∷◌, Some, length, drop, sym, ◌∙◌, ap, arith, cond, refl}
use Rattle.std.proofs.lemmas.List.{drop_more}
use Rattle.std.proofs.lemmas.Option.{slice_get_read}
use Rattle.std.specs.BTreeMap.{get}
use Rattle.std.specs.Cmp.Lexicographic.{slice_cmp}
use Rattle.std.specs.Ordering.{nat_cmp, eq_by_cmp}
use Rattle.std.specs.Prelude.{slice_get}
use Rattle.xt_lex.specs.Labels.{first_label}
use Rattle.xt_lex.proofs.LabelLemmas.{put_in_front}
use Rattle.xt_lex.proofs.labels.places.Goals as goal

pub loop-place-preserved : goal.loop-place-preserved
loop-place-preserved c = λ q.
    let labels = c.args.items.now in
    let place = c.loop-place.place - 1 in
    let item = c.index-items-place.result in
    let within : place < length labels = omega arith in
    let next : place + 1 ≡ c.loop-place.place = omega arith in
    let cut : drop place labels ≡ item ∷ drop c.loop-place.place labels
    = drop_more labels place item within ∙ ap (λ x. x ∷ drop (place + 1) labels) (sym c.index-items-place.is) ∙ ap (λ n. item ∷ drop n labels) next in
    let here : slice_get labels place ≡ Some item = slice_get_read labels (length labels) place item refl within c.index-items-place.is in
    put_in_front labels place (get (slice_cmp nat_cmp) c.loop-place.found q) (get (slice_cmp nat_cmp) c.insert.new.self q) item q (drop c.loop-place.place labels)
    here (c.loop-place.invariant q) (c.in_ok-insert.ensures.updates.0 q ∙ ap (λ k. cond (eq_by_cmp (slice_cmp nat_cmp) k q) (Some place) (get (slice_cmp nat_cmp) c.loop-place.found q)) c.in_ok-clone.ensures.cases)
    ∙ ap (first_label q) (sym cut)
