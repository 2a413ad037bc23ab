use Rattle.std.proofs.Common.{ℕ, ◌<◌, ◌+◌, ◌*◌, ap, length, get_or, arith}
use Rattle.xt_layout.proofs.Wording.{words_more, place_among, used_few}
use Rattle.xt_layout.proofs.addresses.words_behind.Goals as goal

pub loop-word-preserved : goal.loop-word-preserved
loop-word-preserved c =
    let p : ℕ = c.word-item.result.position in
    let base : ℕ = get_or c.args.addresses.now p 0 in
    let among : p < length c.args.addresses.now = place_among (length c.args.addresses.now) c.args.words.now c.loop-word.word-index c.word-item.result c.loop-word-test.true c.word-item.is c.requires.places in
    words_more c.args.addresses.now c.args.words.now c.loop-word.word-index c.word-item.result c.loop-word.used c.count_one.new.counts c.loop-word.behind.items c.push.new.self.items
    (base + c.padding.result + 4 * get_or c.loop-word.used p 0) c.loop-word-test.true c.word-item.is among c.loop-word.invariant
    (ap (λ n. base + n + 4 * get_or c.loop-word.used p 0) c.padding.ensures.value)
    (omega (arith, c.requires.small p, c.padding.ensures.below, used_few c.args.addresses.now c.args.words.now c.loop-word.word-index p c.loop-word.used c.loop-word.behind.items c.requires.few c.loop-word-test.true among c.loop-word.invariant))
    c.in_ok-push.ensures.items c.count_one.ensures
