use Rattle.std.proofs.Common.{◌≡◌, Result, Err, List, refl, sym, ◌∙◌, subst}
use Rattle.xt_map.specs.declared.segment.Segment.{Segment}
use Rattle.xt_map.specs.Memory.{constant_byte}
use Rattle.xt_trace.specs.declared.record.StepRecord.{StepRecord}
use Rattle.xt_frames.specs.declared.kinds.Judged.{Judged}
use Rattle.xt_frames.specs.declared.kinds.Judged.TheVariants.{Whole}
use Rattle.xt_discipline.specs.Walks.{Turns}
use Rattle.xt_frames.specs.Judging.{seen_record}
use Rattle.xt_discipline.specs.Sides.{standing_of}
use Rattle.xt_shadow.specs.Shadows.{IsSeenBy, records_left, shown}
use Rattle.xt_shadow.proofs.Turning.{judged_turn, none_left, passed_by, step_room, whole_core, whole_knows, whole_room}
use Rattle.xt_shadow.proofs.cores.ShadowCore.turn.Goals as goal

pub returns-then-self-eq0-clause-turned : goal.returns-then-self-eq0-clause-turned
returns-then-self-eq0-clause-turned c others stale known =
    let code = constant_byte c.args.lookups.now in
    let w = c.args.self.now in
    let out : Result Unit Judged = Err Whole in
    let T : List StepRecord → Type 0 = λ xs. Turns code (shown w) (shown w) c.args.marks.now others stale xs (records_left code w) out in
    subst T (sym (none_left code w c.if-self-eq0.true)) refl

pub pass-requires : goal.pass-requires
pass-requires c = step_room (constant_byte c.args.lookups.now) c.args.self.now c.make-rec.new.self c.make-rec.result c.requires.inside c.make-rec.ensures.made c.if-self.true c.requires.room

pub judge-requires : goal.judge-requires
judge-requires c =
    let code = constant_byte c.args.lookups.now in
    let w = c.args.self.now in
    let v = c.make-rec.new.self in
    let rec = c.make-rec.result in
    let made = c.make-rec.ensures.made in
    let q = c.requires.known in
    record {
      inside = whole_core code w v rec c.requires.inside made c.if-self.false;
      level = c.if-self.false;
      room = whole_room code w v rec c.requires.inside made c.if-self.false c.requires.room;
      len = c.requires.len;
      known = (q.0, q.1, whole_knows code w v rec c.requires.inside made c.if-self.false c.args.marks.now q.0 q.1 q.2);
    }

pub returns-then-self-clause-turned : goal.returns-then-self-clause-turned
returns-then-self-clause-turned c others stale known =
    passed_by (constant_byte c.args.lookups.now) c.args.self.now c.make-rec.new.self c.make-rec.result c.requires.inside c.make-rec.ensures.made c.pass.new.self c.args.marks.now c.pass.new.marks others stale c.if-self.true
    c.pass.result c.pass.ensures.passed c.requires.len c.pass.ensures.len known

pub returns-else-self-clause-turned : goal.returns-else-self-clause-turned
returns-else-self-clause-turned c others stale known =
    let code = constant_byte c.args.lookups.now in
    let w = c.args.self.now in
    let v = c.make-rec.new.self in
    let rec = c.make-rec.result in
    let made = c.make-rec.ensures.made in
    let same : c.code.result.now ≡ c.args.lookups.now = c.code.ensures ∙ c.make-rec.ensures.code in
    let S : List Segment → Type 0 = λ x. IsSeenBy v c.judge.new.self c.judge.new.marks others stale (seen_record (constant_byte x) v.side.frames.bounds (standing_of v.side) others stale rec) c.judge.result in
    judged_turn code w v rec c.requires.inside made c.if-self.false c.judge.new.self c.judge.new.marks others stale (c.judge.ensures.kept code) c.judge.result
    (subst S same (c.judge.ensures.seen others stale (whole_knows code w v rec c.requires.inside made c.if-self.false c.args.marks.now others stale known)))
