use Rattle.std.proofs.Common.{◌∙◌, List, ap}
use Rattle.xt_map.specs.declared.access.Entry.{Entry}
use Rattle.xt_trace.specs.declared.run.Run.{Run}
use Rattle.xt_sharedbus.specs.SeatState.{SeatState}
use Rattle.xt_machine.proofs.Images.{own_list}
use Rattle.xt_machine.proofs.Opened.{both_made}
use Rattle.xt_machine.proofs.machine.Machine.go.Goals as goal

pub returns-clause-run : goal.returns-clause-run
returns-clause-run g c image h =
    let m = c.args.self in
    let first = c.join-core0.ensures.first in
    let second = c.join-core0.ensures.second in
    let ends = c.join-core0.result in
    let close = c.close-bus.ensures in
    let run : List Entry → Run = λ x. record { options = m.options; history = x; trace0 = c.into_trace.result; trace1 = c.into_trace-2.result } in
    both_made image m.options c.into_parts-index0.result.0.now c.into_parts-index1.result.0.now m.core0 m.core1 ends.0.0 ends.1.0 m.seat0.list m.seat1.list ends.0.1.list ends.1.1.list c.close-bus.result.opening c.close-bus.result.history
    c.into_trace.result c.into_trace-2.result h.valid (c.into_parts-index0.ensures.segments ∙ h.code0) (c.into_parts-index1.ensures.segments ∙ h.code1) h.core0 h.core1 (ap (λ (s : SeatState). s.list) h.seat0) (ap (λ (s : SeatState). s.list) h.seat1) first.driven_is second.driven_is
    (close.opening ∙ first.opening_is ∙ ap (λ (s : SeatState). s.opening) h.seat0) close.legal close.cores close.zero close.one c.into_trace.ensures c.into_trace-2.ensures
    (run c.into_history.result) (ap run c.into_history.ensures)

pub returns-clause-own : goal.returns-clause-own
returns-clause-own g c image h =
    own_list image (record { options = c.args.self.options; history = c.into_history.result; trace0 = c.into_trace.result; trace1 = c.into_trace-2.result }) (returns-clause-run g c image h)
