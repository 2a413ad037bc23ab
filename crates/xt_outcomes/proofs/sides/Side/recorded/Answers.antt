use Rattle.std.proofs.Common.{◌-◌, ◌||◌, ap, ◌∙◌}
use Rattle.xt_map.specs.Memory.{constant_byte}
use Rattle.xt_trace.specs.Calls.{is_stop}
use Rattle.xt_trace.specs.Worlds.{left_past}
use Rattle.xt_search.specs.Changed.{contents_of}
use Rattle.xt_exec.specs.State.{State}
use Rattle.xt_exec.specs.States.{file_state}
use Rattle.xt_outcomes.specs.Spots.{Side, more_kept, state_kept}
use Rattle.xt_outcomes.proofs.Turned.{memory_is, past_is}
use Rattle.xt_outcomes.proofs.sides.Side.recorded.Goals as goal

pub returns-clause-memory : goal.returns-clause-memory
returns-clause-memory c =
    let code = constant_byte c.args.code.now in
    let m = contents_of c.args.opening.now.contents c.args.changes.now in
    let a = c.ahead-ahead.result in
    c.in_ok-serve.ensures.memory ∙ memory_is code c.args.timed c.args.self.now m a.record (file_state a.regs) c.requires.left c.ahead-ahead.ensures.turn

pub returns-clause-side : goal.returns-clause-side
returns-clause-side c =
    let code = constant_byte c.args.code.now in
    let m = contents_of c.args.opening.now.contents c.args.changes.now in
    let a = c.ahead-ahead.result in
    let u = file_state a.regs in
    let past : Side State → Side State = λ s. record { state = state_kept c.args.timed u; left = left_past a.record (more_kept c.args.timed (s.left - 1)); stopped = s.stopped || is_stop a.record.kind } in
    c.come_past.ensures ∙ ap past c.copy-side.ensures ∙ past_is code c.args.timed c.args.self.now m a.record (file_state a.regs) c.requires.left c.ahead-ahead.ensures.turn
