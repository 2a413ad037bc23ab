use Rattle.std.proofs.Common.{◌≡◌, ◌∙◌, true, sym, ap}
use Rattle.xt_exec.specs.States.{file_state}
use Rattle.xt_moments.specs.Moments.{core_fired, is_armed}
use Rattle.xt_moment_search.specs.KnownCores.{core_of}
use Rattle.xt_moment_search.specs.Sides.{KnownCore}
use Rattle.xt_moment_search.proofs.CutStates.{fired_is}
use Rattle.xt_moment_search.proofs.sides.Side.fired.Goals as goal

pub returns-clause-core : goal.returns-clause-core
returns-clause-core c =
    let inside = c.self.inside in
    let k : KnownCore = record { state = file_state inside.regs; masks = inside.masks; armed = inside.armed; stopped = inside.stopped } in
    let timer = c.args.timer in
    let armed : is_armed timer (core_of k) ≡ true =
    ap (λ (x : KnownCore). is_armed timer (core_of x)) c.self.view_is ∙ (sym c.is_armed.ensures ∙ c.if-not-is_armed.false) in
    fired_is k timer (file_state c.with_register.result) c.register.result c.timer_bit.result c.timer_bit-2.result armed
    c.with_register.ensures.state c.register.ensures c.timer_bit.ensures c.timer_bit-2.ensures
    ∙ ap (λ (x : KnownCore). core_fired timer (core_of x)) c.self.view_is
