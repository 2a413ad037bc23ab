use Rattle.std.proofs.Common.{List, sym, subst, arith}
use Rattle.xt_map.specs.Memory.{constant_byte}
use Rattle.xt_map.specs.declared.segment.Segment.{Segment}
use Rattle.xt_discipline.proofs.Walking.{one_of}
use Rattle.xt_use_walk.specs.Sides.{live_in}
use Rattle.xt_use_shadow.specs.Shadows.{IsWalked, shown}
use Rattle.xt_use_shadow.proofs.Turning.{shown_steps}
use Rattle.xt_use_shadow.proofs.Walking.{knows_0, knows_1, walked_one, walked_zero}
use Rattle.xt_use_shadow.proofs.walk.UseShadowWalk.turn.Goals as goal

pub turn-requires : goal.turn-requires
turn-requires c =
    let w = c.args.self.now in
    let q = c.requires.known in
    let room = c.requires.room in
    let z = shown_steps w.side0 in
    record {
      inside = q.3.cores.zero;
      room = omega (arith, room, z);
      full = q.3.knows.bytes.full;
      known = (live_in (shown w.side1).uses, q.2.masks, knows_0 w q.0 q.1 q.2 q.3);
    }

pub turn-requires-else-core-eq0 : goal.turn-requires-else-core-eq0
turn-requires-else-core-eq0 c =
    let w = c.args.self.now in
    let q = c.requires.known in
    let room = c.requires.room in
    let z = shown_steps w.side1 in
    record {
      inside = q.3.cores.one;
      room = omega (arith, room, z);
      full = q.3.knows.bytes.full;
      known = (live_in (shown w.side0).uses, q.2.masks, knows_1 w q.0 q.1 q.2 q.3);
    }

pub returns-then-core-eq0-clause-turned : goal.returns-then-core-eq0-clause-turned
returns-then-core-eq0-clause-turned c b0 b1 k h =
    let w = c.args.self.now in
    let t = c.turn in
    let W : List Segment → Type 0 = λ x. IsWalked (constant_byte w.code) b0 b1 c.args.core k w (record { code = x; side0 = t.new.self; side1 = w.side1; bytes = t.new.bytes; first = t.new.first }) t.result in
    subst W (sym t.ensures.code) (walked_zero w t.new.self t.new.bytes b0 b1 k c.args.core h t.new.first t.result c.if-core-eq0.true t.ensures.turned)

pub returns-else-core-eq0-clause-turned : goal.returns-else-core-eq0-clause-turned
returns-else-core-eq0-clause-turned c b0 b1 k h =
    let w = c.args.self.now in
    let t = c.turn-else-core-eq0 in
    let W : List Segment → Type 0 = λ x. IsWalked (constant_byte w.code) b0 b1 c.args.core k w (record { code = x; side0 = w.side0; side1 = t.new.self; bytes = t.new.bytes; first = t.new.first }) t.result in
    subst W (sym t.ensures.code) (walked_one w t.new.self t.new.bytes b0 b1 k c.args.core h t.new.first t.result (one_of c.args.core c.requires.core c.if-core-eq0.false) t.ensures.turned)

pub returns-then-core-eq0-clause-never : goal.returns-then-core-eq0-clause-never
returns-then-core-eq0-clause-never c = λ n. record { zero = c.turn.ensures.never n.zero; one = n.one }

pub returns-else-core-eq0-clause-never : goal.returns-else-core-eq0-clause-never
returns-else-core-eq0-clause-never c = λ n. record { zero = n.zero; one = c.turn-else-core-eq0.ensures.never n.one }
