use Rattle.std.proofs.Common.{◌≡◌, suc, ◌+◌, ◌-◌, ◌%◌, ◌^◌, ◌++◌, sym, ap, ◌∙◌, arith}
use Rattle.std.specs.Prelude.{string_bytes}
use mathlib.Core.List.{append_assoc}
use Rattle.xt_replay.specs.Shown.{byte_in}
use Rattle.xt_replay.specs.Printed.{word_text, words_from}
use Rattle.xt_replay.proofs.Bytes.{one_word}
use Rattle.xt_replay.proofs.memory.push_each_word.Goals as goal

pub loop-preserved : goal.loop-preserved
loop-preserved c =
    let shown = c.args.state.now in
    let text = string_bytes c.loop.out in
    let at = c.loop.at in
    let below = c.loop-test.true in
    let left = c.args.count - (c.loop.counter + 1) in
    let more : c.args.count - c.loop.counter ≡ suc left = omega (arith, below) in
    let rest = words_from (λ a. byte_in a shown) ((at + 4) % 2 ^ 32) left in
    ap (λ xs. xs ++ rest) c.in_ok-push_word.ensures
    ∙ append_assoc text (word_text (λ a. byte_in a shown) at) rest
    ∙ ap (λ ys. text ++ ys) (sym (one_word (λ a. byte_in a shown) at (c.args.count - c.loop.counter) left more))
    ∙ c.loop.invariant
