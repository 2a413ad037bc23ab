use Rattle.std.proofs.Common.{ℕ, List, length, refl, ◌∙◌, ap, arith}
use Rattle.xt_discipline.specs.declared.bytes.Held.{Held}
use Rattle.xt_discipline.specs.Ended.{records_left}
use Rattle.xt_discipline.specs.Sides.{live_in}
use Rattle.xt_discipline.proofs.Taken.{taken_one, taken_zero}
use Rattle.xt_discipline.proofs.Walking.{one_of, turned_one, turned_zero}
use Rattle.xt_discipline.proofs.walk.Walk.turn.Goals as goal

pub turn_of-requires : goal.turn_of-requires
turn_of-requires g c =
    let k = c.requires.known.3 in
    let room = c.requires.room in
    record { side = k.zero.side; room = omega arith; len = ap (λ (l : List Held). length l) c.deref_mut.ensures.value ∙ k.len }

pub returns-then-core-eq0-clause-turned : goal.returns-then-core-eq0-clause-turned
returns-then-core-eq0-clause-turned g c b0 b1 k h =
    let w = c.args.self.now in
    let d = c.deref_mut.ensures in
    let t = c.turn_of.ensures in
    turned_zero w c.turn_of.new.side c.deref_mut.result.now c.turn_of.new.marks b0 b1 k c.args.core (g.R.Records.left c.args.records0.now) (g.R.Records.left c.turn_of.new.records) (g.R.Records.left c.args.records1.now)
    c.turn_of.result c.if-core-eq0.true h d.value d.len t.len (t.turns (live_in w.side1.frames) k.stale)

pub returns-else-core-eq0-clause-turned : goal.returns-else-core-eq0-clause-turned
returns-else-core-eq0-clause-turned g c b0 b1 k h =
    let w = c.args.self.now in
    let d = c.deref_mut-else-core-eq0.ensures in
    let t = c.turn_of-else-core-eq0.ensures in
    turned_one w c.turn_of-else-core-eq0.new.side c.deref_mut-else-core-eq0.result.now c.turn_of-else-core-eq0.new.marks b0 b1 k c.args.core (g.R.Records.left c.args.records0.now) (g.R.Records.left c.args.records1.now)
    (g.R.Records.left c.turn_of-else-core-eq0.new.records) c.turn_of-else-core-eq0.result (one_of c.args.core c.requires.core c.if-core-eq0.false) h d.value d.len t.len (t.turns (live_in w.side0.frames) k.stale)

pub returns-then-core-eq0-clause-ended : goal.returns-then-core-eq0-clause-ended
returns-then-core-eq0-clause-ended g c whole =
    let t = c.turn_of.ensures.ended whole in
    record {
      none_left = ap (λ (n : ℕ). records_left n (g.R.Records.left c.args.records0.now) (g.R.Records.left c.args.records1.now)) c.if-core-eq0.true ∙ t.0;
      same0 = t.1;
      same1 = refl;
    }

pub returns-else-core-eq0-clause-ended : goal.returns-else-core-eq0-clause-ended
returns-else-core-eq0-clause-ended g c whole =
    let t = c.turn_of-else-core-eq0.ensures.ended whole in
    let one = one_of c.args.core c.requires.core c.if-core-eq0.false in
    record {
      none_left = ap (λ (n : ℕ). records_left n (g.R.Records.left c.args.records0.now) (g.R.Records.left c.args.records1.now)) one ∙ t.0;
      same0 = refl;
      same1 = t.1;
    }

pub returns-then-core-eq0-clause-taken : goal.returns-then-core-eq0-clause-taken
returns-then-core-eq0-clause-taken g c =
    taken_zero c.args.core (g.R.Records.left c.args.records0.now) (g.R.Records.left c.args.records1.now) (g.R.Records.left c.turn_of.new.records) c.turn_of.result c.if-core-eq0.true c.turn_of.ensures.taken

pub returns-else-core-eq0-clause-taken : goal.returns-else-core-eq0-clause-taken
returns-else-core-eq0-clause-taken g c =
    let one = one_of c.args.core c.requires.core c.if-core-eq0.false in
    taken_one c.args.core (g.R.Records.left c.args.records0.now) (g.R.Records.left c.args.records1.now) (g.R.Records.left c.turn_of-else-core-eq0.new.records) c.turn_of-else-core-eq0.result one c.turn_of-else-core-eq0.ensures.taken
