use Rattle.std.proofs.Common.{◌<◌, ◌≤◌, ◌∙◌, get_or, length, sym, ap, arith}
use Rattle.std.proofs.lemmas.Bool.{true≢false}
use Rattle.std.proofs.lemmas.Option.{slice_get-get_or, slice_get_within}
use Rattle.xt_judged.specs.OrderFrames.{place_of}
use Rattle.xt_judged.proofs.Once.{none_from, none_more}
use Rattle.xt_judged.proofs.breaches.has.Goals as goal

pub loop-number-preserved : goal.loop-number-preserved
loop-number-preserved c =
    let xs = c.args.list.now in
    let n = c.loop-number.number in
    let less : n < length xs = c.loop-number-test.true in
    let d = c.index-list-number.result in
    none_more place_of c.args.shown xs n (get_or xs n d) (slice_get-get_or xs n d less)
    (λ e. true≢false (sym (c.is_same_shown.ensures.equal (c.place.ensures ∙ ap place_of c.index-list-number.is ∙ e)) ∙ c.if-is_same_shown.false)) c.loop-number.invariant

pub returns : goal.returns
returns c = λ t.
    let xs = c.args.list.now in
    none_from place_of c.args.shown xs (λ k x at.
    let past : length xs ≤ c.loop-number.number = c.loop-number-test.false in
    let within : k < length xs = slice_get_within xs k x at in
    c.loop-number.invariant k x (omega arith) at)
