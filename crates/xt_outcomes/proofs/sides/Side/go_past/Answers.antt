use Rattle.std.proofs.Common.{◌≡◌, ℕ, ◌-◌, Bool, ◌||◌, cond, ap, ◌∙◌}
use Rattle.xt_trace.specs.Calls.{is_stop}
use Rattle.xt_trace.specs.Worlds.{left_past}
use Rattle.xt_exec.specs.State.{State}
use Rattle.xt_exec.specs.States.{file_state}
use Rattle.xt_outcomes.specs.Dead.{forgotten}
use Rattle.xt_outcomes.specs.Spots.{Side, more_kept, state_kept}
use Rattle.xt_outcomes.proofs.sides.Side.go_past.Goals as goal

pub returns-clause-side : goal.returns-clause-side
returns-clause-side c =
    let s = c.args.self.now in
    let x = c.args.ahead.now.record in
    let make : State → ℕ → Bool → Side State = λ u n b. record { state = u; left = n; stopped = b } in
    let state : file_state c.leave_dead.new.regs ≡ forgotten c.args.dead.now.masks.items (state_kept c.args.timed (file_state c.args.ahead.now.regs)) =
    c.leave_dead.ensures.state ∙ ap (forgotten c.args.dead.now.masks.items) c.leave_time.ensures.state in
    let left : c.left_after-self-inside.result ≡ left_past x (more_kept c.args.timed (s.left - 1)) =
    c.left_after-self-inside.ensures
    ∙ ap (λ (b : Bool). cond b 0 (more_kept c.args.timed (c.self.inside.left - 1))) c.stops-stops.ensures
    ∙ ap (λ (k : Side State). left_past x (more_kept c.args.timed (k.left - 1))) c.self.view_is in
    let stopped : c.is_either-self-inside.result ≡ (s.stopped || is_stop x.kind) =
    c.is_either-self-inside.ensures
    ∙ ap (λ (b : Bool). c.self.inside.stopped || b) c.stops-stops.ensures
    ∙ ap (λ (k : Side State). k.stopped || is_stop x.kind) c.self.view_is in
    λ i. make (state i) (left i) (stopped i)
