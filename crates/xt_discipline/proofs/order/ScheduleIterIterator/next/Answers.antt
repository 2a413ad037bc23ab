use Rattle.std.proofs.Common.{◌≡◌, sym, ◌∙◌, ap, arith}
use Rattle.xt_discipline.specs.declared.order.ScheduleIter.{ScheduleIter}
use Rattle.xt_discipline.specs.Ordered.{turns_left}
use Rattle.xt_discipline.proofs.Orders.{refilled, yields}
use Rattle.xt_discipline.proofs.order.ScheduleIterIterator.next.Goals as goal
use Rattle.xt_discipline.proofs.order.ScheduleIterIterator.next.Goals.{then-self-eq0+else-times-eq0, else-self-eq0}

pub returns-clause-steps : goal.returns-clause-steps
returns-clause-steps c =
    let old = c.args.self.now in
    let mid = c.if-self-eq0.self in
    elim c.if-self-eq0.branch [
      | then-self-eq0+else-times-eq0 w ↦ (let piece = w.piece-core in
          let times : mid.times ≡ piece.result.1 = ap (λ (o : ScheduleIter). o.times) w.self-is in
          let some = w.if-times-eq0.false in
          yields old mid (refilled old piece.new.self piece.result.0 piece.result.1 w.if-self-eq0.true piece.ensures ∙ ap (λ (o : ScheduleIter). turns_left o) (sym w.self-is)) (omega (arith, times, some)))
      | else-self-eq0 w ↦ (let times : mid.times ≡ old.times = ap (λ (o : ScheduleIter). o.times) w.self-is in
          let some = w.if-self-eq0.false in
          yields old mid (ap (λ (o : ScheduleIter). turns_left o) (sym w.self-is)) (omega (arith, times, some)))
    ]
