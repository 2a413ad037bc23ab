use Rattle.std.proofs.Common.{◌≡◌, suc, ◌+◌, ◌-◌, ◌++◌, sym, ap, ◌∙◌, arith, append_assoc}
use Rattle.std.specs.Prelude.{string_bytes}
use Rattle.xt_debug.specs.Calls.{call_line, call_lines}
use Rattle.xt_debug.proofs.Knowing.{one_call}
use Rattle.xt_debug.proofs.calls.push_each_call.Goals as goal

pub loop-back-preserved : goal.loop-back-preserved
loop-back-preserved c =
    let hi = c.args.frames.now.bounds.range.hi in
    let f = c.args.frames.now.state in
    let text = string_bytes c.loop-back.out in
    let depth = c.depth-depth.result in
    let here = depth - c.loop-back.back in
    let left = depth - (c.loop-back.back + 1) in
    let more : here ≡ suc left = omega (arith, c.loop-back-test.true) in
    let rest = call_lines hi f left in
    ap (λ xs. xs ++ rest) c.in_ok-push_call.ensures
    ∙ append_assoc text (call_line hi f here) rest
    ∙ ap (λ ys. text ++ ys) (sym (one_call hi f here left more))
    ∙ c.loop-back.invariant
