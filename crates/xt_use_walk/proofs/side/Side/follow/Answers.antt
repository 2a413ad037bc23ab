use Rattle.std.proofs.Common.{ℕ, ◌-◌, ap, arith}
use Rattle.xt_discipline.proofs.Calls.{sp_room}
use Rattle.xt_use_walk.proofs.Following.{area_bytes, call_at, call_on, low_bytes}
use Rattle.xt_use_walk.proofs.Moving.{follows_enter, follows_leave, follows_shift, follows_still}
use Rattle.xt_use_walk.proofs.side.Side.follow.Goals as goal

pub overflow_sub-low : goal.overflow_sub-low
overflow_sub-low c =
    let w = c.args.self.now.uses in
    let u = w.state.frame in
    let room = sp_room w.bounds.range.lo w.bounds.range.hi u.seen u.frames c.depth-now.ensures.stack in
    let at = c.newest_sp-low.ensures.value in
    omega (arith, room, at)

pub enter-requires-clause-inside : goal.enter-requires-clause-inside
enter-requires-clause-inside c =
    let s = c.args.self.now in
    let w = s.uses in
    let u = w.state.frame in
    let call = call_on c.areas.result s.hi w.bounds.range.hi u c.requires.side.end_is c.areas.ensures in
    area_bytes w.bounds.range.lo w.bounds.range.hi u.seen u.frames c.areas.result c.depth-now.ensures.stack c.requires.side.low c.requires.side.high call.called call.bytes

pub shift-requires-clause-inside : goal.shift-requires-clause-inside
shift-requires-clause-inside c =
    let w = c.args.self.now.uses in
    let u = w.state.frame in
    let at = c.newest_sp-low.ensures.value in
    low_bytes w.bounds.range.lo w.bounds.range.hi u.seen u.frames (c.newest_sp-low.result - 16) c.depth-now.ensures.stack c.requires.side.low c.requires.side.high (ap (λ (n : ℕ). n - 16) at)

pub returns-then-depth-now-clause-follows : goal.returns-then-depth-now-clause-follows
returns-then-depth-now-clause-follows c g m kg depth call =
    let s = c.args.self.now in
    let u = s.uses.state.frame in
    let now = c.depth-now.ensures.depth in
    let more = c.if-depth-now.true in
    let e = c.enter.ensures in
    follows_enter s.core s.uses.bounds.range g u c.areas.result c.args.bytes.now c.enter.new.self m c.requires.side.low c.requires.side.high c.depth-now.ensures.stack (omega (arith, now, more, depth))
    (call_on c.areas.result s.hi s.uses.bounds.range.hi u c.requires.side.end_is c.areas.ensures) c.requires.full e.full e.marks e.masks

pub returns-then-now-depth-clause-follows : goal.returns-then-now-depth-clause-follows
returns-then-now-depth-clause-follows c g m kg depth call =
    let s = c.args.self.now in
    let u = s.uses.state.frame in
    let now = c.depth-now.ensures.depth in
    let less = c.if-now-depth.true in
    let e = c.leave.ensures in
    follows_leave s.core s.uses.bounds.range g u c.in-Some.areas c.args.bytes.now c.leave.new.self m c.requires.side.low c.requires.side.high kg (omega (arith, now, less, depth))
    (call_at c.args.call c.in-Some.areas s.hi s.uses.bounds.range.hi g c.in-Some.is c.requires.side.end_is call) c.requires.full e.full e.marks e.masks

pub returns-then-low-areas-clause-follows : goal.returns-then-low-areas-clause-follows
returns-then-low-areas-clause-follows c g m kg depth call =
    let s = c.args.self.now in
    let u = s.uses.state.frame in
    let now = c.depth-now.ensures.depth in
    let not_more = c.if-depth-now.false in
    let not_less = c.if-now-depth.false in
    let at = c.newest_sp-low.ensures.value in
    let e = c.shift.ensures in
    follows_shift s.core s.uses.bounds.range g u c.in-Some.areas (c.newest_sp-low.result - 16) c.args.bytes.now c.shift.new.self m c.requires.side.low c.requires.side.high kg c.depth-now.ensures.stack (omega (arith, now, not_more, not_less, depth))
    (call_at c.args.call c.in-Some.areas s.hi s.uses.bounds.range.hi g c.in-Some.is c.requires.side.end_is call) (ap (λ (n : ℕ). n - 16) at) c.requires.full e.full e.marks e.masks

pub returns-else-low-areas-clause-follows : goal.returns-else-low-areas-clause-follows
returns-else-low-areas-clause-follows c g m kg depth call =
    let s = c.args.self.now in
    let u = s.uses.state.frame in
    let now = c.depth-now.ensures.depth in
    let not_more = c.if-depth-now.false in
    let not_less = c.if-now-depth.false in
    let at = c.newest_sp-low.ensures.value in
    let same = c.if-low-areas.false in
    follows_still s.core s.uses.bounds.range g u c.in-Some.areas c.args.bytes.now m (omega (arith, now, not_more, not_less, depth))
    (call_at c.args.call c.in-Some.areas s.hi s.uses.bounds.range.hi g c.in-Some.is c.requires.side.end_is call) (omega (arith, at, same))
