use Rattle.std.proofs.Common.{◌≡◌, ◌+◌, sym, ap, ◌∙◌, arith}
use Rattle.xt_trace.specs.declared.run.Run.{Run}
use Rattle.xt_replay.proofs.Standing.{bounds, schedule_long}
use Rattle.xt_replay.proofs.ends.end_of.Goals as goal

pub overflow_add-result : goal.overflow_add-result
overflow_add-result c =
    let r = c.args.replay.now in
    let b = bounds r.image r.run c.run-run.ensures.is in
    let a0 : c.run-run.result.now.trace0.count ≡ r.run.trace0.count = ap (λ (x : Run). x.trace0.count) c.run-run.ensures.run in
    let a1 : c.run-run.result.now.trace1.count ≡ r.run.trace1.count = ap (λ (x : Run). x.trace1.count) c.run-run.ensures.run in
    omega (arith, a0, a1, b.count0, b.count1)

pub returns : goal.returns
returns c =
    let r = c.args.replay.now in
    ap (λ (x : Run). x.trace0.count + x.trace1.count) c.run-run.ensures.run ∙ sym (schedule_long r.image r.run c.run-run.ensures.is)
