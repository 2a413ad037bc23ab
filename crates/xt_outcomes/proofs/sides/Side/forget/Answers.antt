use Rattle.std.proofs.Common.{ap, ◌∙◌}
use Rattle.xt_exec.specs.State.{State}
use Rattle.xt_outcomes.specs.Dead.{side_forgotten}
use Rattle.xt_outcomes.specs.Spots.{Side}
use Rattle.xt_outcomes.proofs.sides.Side.forget.Goals as goal

pub returns : goal.returns
returns c =
    let with : State → Side State = λ s. record { state = s; left = c.self.inside.left; stopped = c.self.inside.stopped } in
    ap with c.leave_dead.ensures.state ∙ ap (side_forgotten c.args.dead.now.masks.items) c.self.view_is
