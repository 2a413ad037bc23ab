use Rattle.std.proofs.Common.{Option, Err, subst, sym}
use Rattle.xt_map.specs.Memory.{constant_byte}
use Rattle.xt_discipline.specs.Schedules.{schedule_in}
use Rattle.xt_use_walk.specs.declared.walk.FirstUse.{FirstUse}
use Rattle.xt_use_walk.specs.declared.walk.Uses.{Uses}
use Rattle.xt_use_walk.specs.Walks.{IsTold}
use Rattle.xt_use_shadow.specs.declared.seeing.End.{End}
use Rattle.xt_use_shadow.specs.Shadows.{IsFound, IsShownIn, judged_from, records_left}
use Rattle.xt_use_shadow.proofs.walk.UseShadowWalk.judge.Goals as goal

pub returns-in-Some : goal.returns-in-Some
returns-in-Some c = λ b0 b1 k h.
    let old = c.args.self.now in
    let new = c.follow.new.self in
    let code = constant_byte old.code in
    let j = judged_from code b0 b1 (schedule_in c.args.run.now) k old in
    let E : End → Type 0 = λ e. IsFound code j k old new (Err e) in
    let F : Option FirstUse → Type 0 = λ f. IsShownIn code j k old f in
    let end : F new.first = subst E c.in-Err-Breaks.field-0-is (c.in-Err-Breaks.ensures b0 b1 k h) in
    subst F c.in-Some.is end

pub unreachable-requires : goal.unreachable-requires
unreachable-requires c =
    let q = c.requires.known in
    let old = c.args.self.now in
    let new = c.follow.new.self in
    let code = constant_byte old.code in
    let j = judged_from code q.0 q.1 (schedule_in c.args.run.now) q.2 old in
    let E : End → Type 0 = λ e. IsFound code j q.2 old new (Err e) in
    let F : Option FirstUse → Type 0 = λ f. IsShownIn code j q.2 old f in
    let end : F new.first = subst E c.in-Err-Breaks.field-0-is (c.in-Err-Breaks.ensures q.0 q.1 q.2 q.3) in
    subst F c.in-None.is end

pub returns-in-Err-NoTurn : goal.returns-in-Err-NoTurn
returns-in-Err-NoTurn c = λ b0 b1 k h.
    let old = c.args.self.now in
    let code = constant_byte old.code in
    let j = judged_from code b0 b1 (schedule_in c.args.run.now) k old in
    let E : End → Type 0 = λ e. IsFound code j k old c.follow.new.self (Err e) in
    let T : Uses → Type 0 = λ u. IsTold code j k (records_left code old.side0) (records_left code old.side1) u in
    subst T (sym c.whole-in-Err-NoTurn.ensures) (subst E c.in-Err-NoTurn.field-0-is (c.in-Err-NoTurn.ensures b0 b1 k h))

pub returns-in-Err-Lost : goal.returns-in-Err-Lost
returns-in-Err-Lost c = λ b0 b1 k h.
    let old = c.args.self.now in
    let code = constant_byte old.code in
    let j = judged_from code b0 b1 (schedule_in c.args.run.now) k old in
    let E : End → Type 0 = λ e. IsFound code j k old c.follow.new.self (Err e) in
    subst E c.in-Err-Lost.field-0-is (c.in-Err-Lost.ensures b0 b1 k h)
