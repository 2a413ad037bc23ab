use Rattle.std.proofs.Common.{◌≡◌, ℕ, ap, ◌∙◌}
use Rattle.xt_map.specs.Memory.{constant_byte}
use Rattle.xt_trace.specs.declared.record.StepRecord.{StepRecord}
use Rattle.xt_exec.specs.State.{State}
use Rattle.xt_exec.specs.States.{file_state}
use Rattle.xt_exec.specs.Turn.{turn}
use Rattle.xt_core.proofs.Turning.{whole_turn}
use Rattle.xt_outcomes.specs.Spots.{Side}
use Rattle.xt_outcomes.proofs.sides.Side.next_record.Goals as goal

pub returns-clause-record : goal.returns-clause-record
returns-clause-record c =
    let code : ℕ → ℕ = constant_byte c.args.code.now in
    let state : file_state c.self.inside.regs ≡ c.args.self.now.state = ap (λ (s : Side State). s.state) c.self.view_is in
    c.turn_record.ensures
    ∙ ap (λ (t : StepRecord × State). t.0) (whole_turn code (file_state c.self.inside.regs) c.in_ok-pending.pending c.finish-effect.result _ c.args.reply c.finish-effect.ensures c.in_ok-pending.ensures.awaits)
    ∙ ap (λ (s : State). (turn code s c.args.reply).0) state
