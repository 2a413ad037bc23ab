use Rattle.std.proofs.Common.{List, length, sym, ◌∙◌, ap, subst, arith}
use Rattle.std.specs.Vec.{with_items}
use Rattle.xt_map.specs.Memory.{constant_byte}
use Rattle.xt_map.specs.declared.segment.Segment.{Segment}
use Rattle.xt_discipline.specs.declared.bytes.Held.{Held}
use Rattle.xt_discipline.specs.Sides.{live_in}
use Rattle.xt_discipline.proofs.Walking.{one_of}
use Rattle.xt_shadow.specs.Shadows.{IsWalked, shown}
use Rattle.xt_shadow.proofs.Turning.{shown_steps}
use Rattle.xt_shadow.proofs.Walking.{knows_0, knows_1, walked_one, walked_zero}
use Rattle.xt_shadow.proofs.walk.ShadowWalk.turn.Goals as goal

pub turn-requires : goal.turn-requires
turn-requires c =
    let w = c.args.self.now in
    let q = c.requires.known in
    let d = c.deref_mut.ensures in
    let room = c.requires.room in
    let z = shown_steps w.side0 in
    record {
      inside = q.3.cores.zero;
      room = omega (arith, room, z);
      len = ap (λ (l : List Held). length l) d.value ∙ q.3.knows.len;
      known = (live_in (shown w.side1).frames, q.2.stale, knows_0 w q.0 q.1 q.2 c.deref_mut.result.now q.3 d.value);
    }

pub turn-requires-else-core-eq0 : goal.turn-requires-else-core-eq0
turn-requires-else-core-eq0 c =
    let w = c.args.self.now in
    let q = c.requires.known in
    let d = c.deref_mut-else-core-eq0.ensures in
    let room = c.requires.room in
    let z = shown_steps w.side1 in
    record {
      inside = q.3.cores.one;
      room = omega (arith, room, z);
      len = ap (λ (l : List Held). length l) d.value ∙ q.3.knows.len;
      known = (live_in (shown w.side0).frames, q.2.stale, knows_1 w q.0 q.1 q.2 c.deref_mut-else-core-eq0.result.now q.3 d.value);
    }

pub returns-then-core-eq0 : goal.returns-then-core-eq0
returns-then-core-eq0 c b0 b1 k h =
    let d = c.deref_mut.ensures in
    let w = c.args.self.now in
    let W : List Segment → Type 0 = λ x. IsWalked (constant_byte w.code) b0 b1 c.args.core k w (record { code = x; side0 = c.turn.new.self; side1 = w.side1; marks = with_items w.marks c.turn.new.marks }) c.turn.result in
    subst W (sym c.turn.ensures.code) (walked_zero w c.turn.new.self c.deref_mut.result.now c.turn.new.marks b0 b1 k c.args.core c.turn.result c.if-core-eq0.true h d.value d.len c.turn.ensures.len c.turn.ensures.turned)

pub returns-else-core-eq0 : goal.returns-else-core-eq0
returns-else-core-eq0 c b0 b1 k h =
    let d = c.deref_mut-else-core-eq0.ensures in
    let w = c.args.self.now in
    let W : List Segment → Type 0 = λ x. IsWalked (constant_byte w.code) b0 b1 c.args.core k w (record { code = x; side0 = w.side0; side1 = c.turn-else-core-eq0.new.self; marks = with_items w.marks c.turn-else-core-eq0.new.marks }) c.turn-else-core-eq0.result in
    subst W (sym c.turn-else-core-eq0.ensures.code) (walked_one w c.turn-else-core-eq0.new.self c.deref_mut-else-core-eq0.result.now c.turn-else-core-eq0.new.marks b0 b1 k c.args.core c.turn-else-core-eq0.result (one_of c.args.core c.requires.core c.if-core-eq0.false) h d.value d.len c.turn-else-core-eq0.ensures.len
    c.turn-else-core-eq0.ensures.turned)
