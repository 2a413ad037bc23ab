use Rattle.std.proofs.Common.{◌≡◌, ◌-◌, ◌≤◌, ap, arith}
use Rattle.xt_map.specs.Memory.{constant_byte}
use Rattle.xt_bus.specs.States.{BusState}
use Rattle.xt_trace.specs.Worlds.{left_past}
use Rattle.xt_trace.proofs.Ends.{left_at_most}
use Rattle.xt_exec.specs.Turn.{turn}
use Rattle.xt_core.specs.Cores.{CoreState}
use Rattle.xt_machine.proofs.turns.make_turn.Goals as goal

pub returns-in-Bus-clause-spare : goal.returns-in-Bus-clause-spare
returns-in-Bus-clause-spare g c =
    let code = constant_byte c.args.code.now in
    let before = c.turn_begin.new.self in
    let made = (turn code before.state c.step-reply.result).0 in
    let asked : before.left ≡ c.args.core.now.left = ap (λ (k : CoreState). k.left) c.in-Bus.ensures.same in
    let after : c.turn_end.new.self.left ≡ left_past made (before.left - 1) = ap (λ (k : CoreState). k.left) (c.turn_end.ensures code c.in-Bus.ensures.awaits) in
    let fewer : left_past made (before.left - 1) ≤ before.left - 1 = left_at_most made (before.left - 1) (before.left - 1) (omega arith) in
    let spare : c.step-reply.new.self.spare ≡ c.args.bus.now.spare - 1 = ap (λ (b : BusState). b.spare) c.step-reply.ensures.state in
    omega (arith, c.in-Bus.ensures.left, c.requires.room)
