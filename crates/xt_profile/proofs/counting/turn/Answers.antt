use Rattle.xt_map.specs.Memory.{constant_byte}
use Rattle.xt_profile.proofs.Making.{end_by, made_by}
use Rattle.xt_profile.proofs.counting.turn.Goals as goal

pub returns-in-Ok : goal.returns-in-Ok
returns-in-Ok c b0 b1 k h =
    made_by (constant_byte c.args.walk.now.code) b0 b1 c.args.walk.now c.turn.new.self k c.args.core c.args.records0.now c.args.records1.now c.peek.new.records0 c.peek.new.records1 c.turn.new.records0 c.turn.new.records1
    c.in-Some.pc c.depth_of-after.result c.in-Some.kind c.phase-phase.result c.peek.result c.turn.result c.in-Ok.field-0 c.peek.ensures.same0 c.peek.ensures.same1 c.in-Ok.is h (c.turn.ensures.turned b0 b1 k h) c.turn.ensures.taken c.in-Some.is c.peek.ensures.peeked
    c.phase-phase.ensures c.depth_of-after.ensures

pub returns-in-Err : goal.returns-in-Err
returns-in-Err c b0 b1 k h =
    end_by (constant_byte c.args.walk.now.code) b0 b1 c.args.walk.now c.turn.new.self k c.args.core c.args.records0.now c.args.records1.now c.peek.new.records0 c.peek.new.records1 c.turn.new.records0 c.turn.new.records1
    c.in-Err.field-0 c.turn.result c.peek.ensures.same0 c.peek.ensures.same1 c.in-Err.is (c.turn.ensures.turned b0 b1 k h) c.turn.ensures.ended
