use Rattle.std.proofs.Common.{◌≡◌, ◌-◌, ◌≤◌, ◌∙◌, refl, ap, sym, subst, arith}
use Rattle.xt_map.specs.Memory.{constant_byte}
use Rattle.xt_sharedbus.specs.SeatState.{SeatState}
use Rattle.xt_trace.specs.Worlds.{left_past}
use Rattle.xt_trace.proofs.Ends.{left_at_most}
use Rattle.xt_exec.specs.Turn.{turn}
use Rattle.xt_core.specs.Cores.{CoreState, core_after_turn}
use Rattle.xt_machine.specs.Going.{IsGoing}
use Rattle.xt_machine.proofs.Driven.{going_none, going_local, going_call, going_ended}
use Rattle.xt_machine.proofs.driving.drive.Goals as goal

pub turns-init : goal.turns-init
turns-init g c = record {
  going = going_none (constant_byte c.args.code.now) c.args.core.now c.args.seat.now.list c.requires.waiting;
  waiting = c.requires.waiting;
  bus = refl;
  core = refl;
  opening = refl;
  left = c.requires.left;
  calls = omega (arith, c.left-room.ensures);
}

pub returns-in-Ended-clause-driven : goal.returns-in-Ended-clause-driven
returns-in-Ended-clause-driven g c =
    let code = constant_byte c.args.code.now in
    let same = c.in-Ended.ensures.1 in
    let F : CoreState → Type 0 = λ k. IsGoing code c.args.core.now k c.args.seat.now.list c.turns.seat.list in
    going_ended code c.args.core.now c.turn_begin.new.self c.args.seat.now.list c.turns.seat.list
    (ap (λ (k : CoreState). k.left) same ∙ c.in-Ended.ensures.0) (subst F (sym same) c.turns.invariant.going)

pub turns-preserved-in-Local : goal.turns-preserved-in-Local
turns-preserved-in-Local g c =
    let code = constant_byte c.args.code.now in
    let i = c.turns.invariant in
    let before = c.turns.core in
    let made = (turn code before.state 0).0 in
    let after : c.turn_begin.new.self.left ≡ left_past made (before.left - 1) = ap (λ (k : CoreState). k.left) c.in-Local.ensures.2 in
    let fewer : left_past made (before.left - 1) ≤ before.left - 1 = left_at_most made (before.left - 1) (before.left - 1) (omega arith) in
    record {
      going = going_local code c.args.core.now before c.turn_begin.new.self c.args.seat.now.list c.turns.seat.list c.in-Local.ensures.0 c.in-Local.ensures.1 c.in-Local.ensures.2 i.going;
      waiting = ap (λ (k : CoreState). k.waiting) c.in-Local.ensures.2;
      bus = i.bus;
      core = i.core;
      opening = i.opening;
      left = omega (arith, i.left);
      calls = i.calls;
    }

pub turns-preserved : goal.turns-preserved
turns-preserved g c =
    let code = constant_byte c.args.code.now in
    let i = c.turns.invariant in
    let before = c.turns.core in
    let asks = c.in-Bus.ensures in
    let reply = c.access-reply.result in
    let went = c.access-reply.ensures in
    let made = (turn code before.state reply).0 in
    let is : c.turn_end.new.self ≡ core_after_turn code reply before = c.turn_end.ensures code asks.awaits ∙ ap (core_after_turn code reply) asks.same in
    let after : c.turn_end.new.self.left ≡ left_past made (before.left - 1) = ap (λ (k : CoreState). k.left) is in
    let fewer : left_past made (before.left - 1) ≤ before.left - 1 = left_at_most made (before.left - 1) (before.left - 1) (omega arith) in
    let seat : c.access-reply.new.seat.left ≡ c.turns.seat.left - 1 = ap (λ (s : SeatState). s.left) went in
    record {
      going = going_call code c.args.core.now before c.turn_end.new.self c.args.seat.now.list c.turns.seat.list c.access-reply.new.seat.list c.in-Bus.access reply
          asks.left asks.asks is (ap (λ (s : SeatState). s.list) went) i.going;
      waiting = ap (λ (k : CoreState). k.waiting) is;
      bus = ap (λ (s : SeatState). s.bus) went ∙ i.bus;
      core = ap (λ (s : SeatState). s.core) went ∙ i.core;
      opening = ap (λ (s : SeatState). s.opening) went ∙ i.opening;
      left = omega (arith, i.left);
      calls = omega (arith, i.calls, i.left, asks.left);
    }
