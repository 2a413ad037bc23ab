use Rattle.std.proofs.Common.{◌≡◌, suc, ◌+◌, ◌-◌, ◌%◌, ◌^◌, ◌++◌, sym, ap, ◌∙◌, arith}
use Rattle.std.specs.Prelude.{string_bytes}
use mathlib.Core.List.{append_assoc}
use Rattle.xt_replay.specs.Shown.{byte_in}
use Rattle.xt_replay.specs.Printed.{byte_text, bytes_text}
use Rattle.xt_replay.proofs.Bytes.{one_byte}
use Rattle.xt_replay.proofs.memory.push_bytes.Goals as goal

pub loop-preserved : goal.loop-preserved
loop-preserved c =
    let shown = c.args.state.now in
    let text = string_bytes c.loop.out in
    let at = c.loop.at in
    let below = c.loop-test.true in
    let left = c.args.count - (c.loop.counter + 1) in
    let more : c.args.count - c.loop.counter ≡ suc left = omega (arith, below) in
    let rest = bytes_text (λ a. byte_in a shown) ((at + 1) % 2 ^ 32) left in
    ap (λ xs. xs ++ rest) (c.in_ok-push_byte.ensures ∙ ap (λ b. text ++ byte_text b) c.byte.ensures)
    ∙ append_assoc text (byte_text (byte_in at shown)) rest
    ∙ ap (λ ys. text ++ ys) (sym (one_byte (λ a. byte_in a shown) at (c.args.count - c.loop.counter) left more))
    ∙ c.loop.invariant
