use Rattle.std.proofs.Common.{ap}
use Rattle.xt_map.specs.Memory.{constant_byte}
use Rattle.xt_search.specs.Changed.{contents_of}
use Rattle.xt_judged.specs.OwnJudges.{range_of}
use Rattle.xt_judged.specs.WatchedKept.{judge_at, own_at}
use Rattle.xt_exec.specs.States.{file_state}
use Rattle.xt_judged.proofs.CompareSteps.{compare_fits}
use Rattle.xt_judged.proofs.FewerTurns.{fit_of, turn_is}
use Rattle.xt_judged.proofs.WatchedMade.{some_left}
use Rattle.xt_judged.proofs.watching.Watching.turn.Goals as goal

pub go_on-requires-clause-left : goal.go_on-requires-clause-left
go_on-requires-clause-left c = some_left (own_at c.args.side.now c.args.frames.now c.args.judge.now) c.requires.on

pub go_past-requires-clause-fit : goal.go_past-requires-clause-fit
go_past-requires-clause-fit c =
    let t = c.args.self.now.timed in
    let o = own_at c.args.side.now c.args.frames.now c.args.judge.now in
    let a = c.args.ahead.now in
    compare_fits (constant_byte t.code) t.dead.masks.items o.side.state _ a.record (file_state a.regs) c.requires.ahead.turn
    (fit_of (constant_byte t.code) t.dead.masks.items t.timed o c.requires.on c.requires.fit)

pub returns-clause-turn : goal.returns-clause-turn
returns-clause-turn c =
    let t = c.args.self.now.timed in
    let m = t.opening.contents in
    let o = own_at c.args.side.now c.args.frames.now c.args.judge.now in
    let made = c.in_ok-go_on.ensures in
    turn_is (constant_byte t.code) t.dead.masks.items (range_of c.args.self.now.stack0) (range_of c.args.self.now.stack1) t.timed c.args.self.now.places.list.items c.args.core
    o c.requires.on c.go_on.new.side (contents_of m c.args.changes.now) (contents_of m c.go_on.new.changes) c.args.ahead.now.record (range_of c.other_stack.result)
    (judge_at c.go_past.new.frames c.go_past.new.self) made.side made.memory (ap (λ p. p.0) c.requires.ahead.turn)
    (fit_of (constant_byte t.code) t.dead.masks.items t.timed o c.requires.on c.requires.fit) c.requires.free c.other_stack.ensures c.in_ok-go_past.ensures.stands
