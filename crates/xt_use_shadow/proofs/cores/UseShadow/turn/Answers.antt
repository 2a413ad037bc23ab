use Rattle.std.proofs.Common.{◌≡◌, Result, Err, List, refl, sym, ◌∙◌, subst}
use Rattle.std.proofs.lemmas.Bool.{true≢false}
use Rattle.xt_map.specs.declared.segment.Segment.{Segment}
use Rattle.xt_map.specs.Memory.{constant_byte}
use Rattle.xt_trace.specs.declared.record.StepRecord.{StepRecord}
use Rattle.xt_use_walk.specs.Walks.{NoRecord, Turns, WalkEnd}
use Rattle.xt_use_shadow.specs.Shadows.{IsSeenBy, records_left, shown}
use Rattle.xt_use_shadow.proofs.Turning.{judged_turn, none_left, passed_by, step_room, stepped, whole_core, whole_knows, whole_room}
use Rattle.xt_use_shadow.proofs.cores.UseShadow.turn.Goals as goal

pub returns-then-self-eq0-clause-turned : goal.returns-then-self-eq0-clause-turned
returns-then-self-eq0-clause-turned c others masks known =
    let code = constant_byte c.args.lookups.now in
    let w = c.args.self.now in
    let out : Result Unit WalkEnd = Err NoRecord in
    let T : List StepRecord → Type 0 = λ xs. Turns code (shown w) (shown w) c.args.bytes.now others masks xs (records_left code w) out in
    subst T (sym (none_left code w c.if-self-eq0.true)) refl

pub pass-requires : goal.pass-requires
pass-requires c = record {
  room = step_room (constant_byte c.args.lookups.now) c.args.self.now c.make-rec.new.self c.make-rec.result c.args.bytes.now c.requires.inside c.make-rec.ensures.made c.if-self.true c.requires.room;
  full = c.requires.full;
  served = c.make-rec.ensures.served;
}

pub judge-requires : goal.judge-requires
judge-requires c =
    let code = constant_byte c.args.lookups.now in
    let w = c.args.self.now in
    let v = c.make-rec.new.self in
    let rec = c.make-rec.result in
    let m = c.args.bytes.now in
    let made = c.make-rec.ensures.made in
    let q = c.requires.known in
    record {
      inside = whole_core code w v rec m c.requires.inside made c.if-self.false;
      level = c.if-self.false;
      room = whole_room code w v rec m c.requires.inside made c.if-self.false c.requires.room;
      served = c.make-rec.ensures.served;
      full = c.requires.full;
      known = (q.0, q.1, whole_knows code w v rec m c.requires.inside made c.if-self.false q.0 q.1 q.2);
    }

pub returns-then-self-clause-turned : goal.returns-then-self-clause-turned
returns-then-self-clause-turned c others masks known =
    passed_by (constant_byte c.args.lookups.now) c.args.self.now c.make-rec.new.self c.make-rec.result c.args.bytes.now c.requires.inside c.make-rec.ensures.made c.pass.new.self c.pass.new.bytes others masks c.args.first.now c.if-self.true
    c.pass.result c.pass.ensures.passed c.make-rec.ensures.served c.pass.ensures.full known

pub returns-else-self-clause-turned : goal.returns-else-self-clause-turned
returns-else-self-clause-turned c others masks known =
    let code = constant_byte c.args.lookups.now in
    let w = c.args.self.now in
    let v = c.make-rec.new.self in
    let rec = c.make-rec.result in
    let m = c.args.bytes.now in
    let made = c.make-rec.ensures.made in
    let same : c.code.result.now ≡ c.args.lookups.now = c.code.ensures ∙ c.make-rec.ensures.code in
    let S : List Segment → Type 0 = λ x. IsSeenBy (constant_byte x) v c.judge.new.self c.judge.new.bytes others masks rec c.judge.new.first c.judge.result in
    judged_turn code w v rec m c.requires.inside made c.if-self.false c.judge.new.self c.judge.new.bytes others masks c.judge.new.first (c.judge.ensures.kept code) c.judge.result
    (subst S same (c.judge.ensures.seen others masks (whole_knows code w v rec m c.requires.inside made c.if-self.false others masks known)))

pub returns-then-self-clause-never : goal.returns-then-self-clause-never
returns-then-self-clause-never c = λ e.
    absurd (true≢false (sym (stepped (constant_byte c.args.lookups.now) c.args.self.now c.make-rec.new.self c.make-rec.result c.args.bytes.now c.requires.inside c.make-rec.ensures.made c.if-self.true) ∙ e))

pub returns-else-self-clause-never : goal.returns-else-self-clause-never
returns-else-self-clause-never c = λ e. c.judge.ensures.never (c.make-rec.ensures.made.may_step ∙ e)
