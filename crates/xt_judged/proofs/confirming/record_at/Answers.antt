use Rattle.std.proofs.Common.{◌≡◌, ◌≤◌, ap, ◌∙◌, arith}
use Rattle.std.specs.Prelude.{slice_get}
use Rattle.xt_trace.specs.Left.{first_of, rest_of}
use Rattle.xt_judged.proofs.Confirmed.{first_left, rest_past}
use Rattle.xt_judged.proofs.confirming.record_at.Goals as goal

pub loop-preserved : goal.loop-preserved
loop-preserved g c = c.next.ensures.rest ∙ ap rest_of c.loop.invariant ∙ rest_past c.loop.counter (g.R.Records.left c.args.records.now)

pub returns : goal.returns
returns g c =
    let xs = g.R.Records.left c.args.records.now in
    let on : c.args.number ≤ c.loop.counter = c.loop-test.false in
    let off : c.loop.counter ≤ c.args.number = c.loop.auto.counter-end in
    let all : c.loop.counter ≡ c.args.number = omega (arith, on, off) in
    c.next-2.ensures.first ∙ ap first_of c.loop.invariant ∙ first_left c.loop.counter xs ∙ ap (slice_get xs) all
