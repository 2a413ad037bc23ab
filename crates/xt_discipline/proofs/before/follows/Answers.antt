use Rattle.std.proofs.Common.{Bool, get_or, refl, sym, subst}
use Rattle.xt_map.specs.Memory.{constant_byte}
use Rattle.xt_frames.specs.Verdict.{judgement}
use Rattle.xt_discipline.specs.Before.{known_in}
use Rattle.xt_discipline.specs.Places.{Ends}
use Rattle.xt_discipline.proofs.Reached.{ends_all, ends_err}
use Rattle.xt_discipline.proofs.Walking.{reach_none, reach_room, reach_turn}
use Rattle.xt_discipline.proofs.before.follows.Goals as goal

pub loop-core-init : goal.loop-core-init
loop-core-init g c b0 b1 k h =
    reach_none (constant_byte c.args.walk.now.code) c.args.walk.now b0 b1 k c.args.schedule.now (g.R.Records.left c.args.records0.now) (g.R.Records.left c.args.records1.now) h refl

pub turn-requires-clause-known : goal.turn-requires-clause-known
turn-requires-clause-known g c =
    let q = c.requires.known in
    let r = c.loop-core.invariant q.0 q.1 q.2 q.3 in
    (q.0, q.1, r.known, r.knows)

pub turn-requires-clause-room : goal.turn-requires-clause-room
turn-requires-clause-room g c =
    let q = c.requires.known in
    reach_room (constant_byte c.args.walk.now.code) c.args.walk.now c.loop-core.walk q.0 q.1 q.2 c.args.schedule.now c.loop-core.core-index (g.R.Records.left c.args.records0.now) (g.R.Records.left c.args.records1.now)
    (g.R.Records.left c.loop-core.records0) (g.R.Records.left c.loop-core.records1) q.3 (c.loop-core.invariant q.0 q.1 q.2 q.3) c.loop-core-test.true c.requires.room

pub returns-in-Err : goal.returns-in-Err
returns-in-Err g c b0 b1 k h =
    let r = c.loop-core.invariant b0 b1 k h in
    let i = c.loop-core.core-index in
    let cs = c.args.schedule.now in
    let code = constant_byte c.args.walk.now.code in
    let j = judgement code b0 b1 cs (g.R.Records.left c.args.records0.now) (g.R.Records.left c.args.records1.now) k in
    subst (λ (t : Bool). Ends t c.turn.new.self b0 b1 (known_in j)) (sym c.is_whole.ensures)
    (ends_err code c.loop-core.walk c.turn.new.self b0 b1 k cs i (get_or cs i 0) 0 (g.R.Records.left c.args.records0.now) (g.R.Records.left c.args.records1.now)
    (g.R.Records.left c.loop-core.records0) (g.R.Records.left c.loop-core.records1) (g.R.Records.left c.turn.new.records0) (g.R.Records.left c.turn.new.records1)
    c.turn.result c.in-Err.judged c.in-Err.is c.loop-core-test.true refl r (c.turn.ensures.turned b0 b1 r.known r.knows) c.turn.ensures.ended)

pub loop-core-preserved : goal.loop-core-preserved
loop-core-preserved g c b0 b1 k h =
    let r = c.loop-core.invariant b0 b1 k h in
    let i = c.loop-core.core-index in
    let cs = c.args.schedule.now in
    reach_turn (constant_byte c.args.walk.now.code) c.loop-core.walk c.turn.new.self b0 b1 k cs i (get_or cs i 0) 0 (g.R.Records.left c.args.records0.now) (g.R.Records.left c.args.records1.now)
    (g.R.Records.left c.loop-core.records0) (g.R.Records.left c.loop-core.records1) (g.R.Records.left c.turn.new.records0) (g.R.Records.left c.turn.new.records1)
    c.turn.result c.in_default.field-0 c.in_default.is c.loop-core-test.true refl r (c.turn.ensures.turned b0 b1 r.known r.knows)

pub returns : goal.returns
returns g c b0 b1 k h =
    ends_all (constant_byte c.args.walk.now.code) c.loop-core.walk b0 b1 k c.args.schedule.now c.loop-core.core-index (g.R.Records.left c.args.records0.now) (g.R.Records.left c.args.records1.now)
    (g.R.Records.left c.loop-core.records0) (g.R.Records.left c.loop-core.records1) c.loop-core-test.false (c.loop-core.invariant b0 b1 k h)
