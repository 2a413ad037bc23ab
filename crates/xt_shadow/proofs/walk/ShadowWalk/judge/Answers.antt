use Rattle.std.proofs.Common.{Err, subst}
use Rattle.xt_map.specs.Memory.{constant_byte}
use Rattle.xt_discipline.specs.Schedules.{schedule_in}
use Rattle.xt_shadow.specs.declared.cores.End.{End}
use Rattle.xt_shadow.specs.Shadows.{IsFound, judged_from}
use Rattle.xt_shadow.proofs.walk.ShadowWalk.judge.Goals as goal

pub returns-in-Err-Is : goal.returns-in-Err-Is
returns-in-Err-Is c = λ b0 b1 k h.
    let E : End → Type 0 = λ e. IsFound (judged_from (constant_byte c.args.self.now.code) b0 b1 (schedule_in c.args.run.now) k c.args.self.now) (Err e) in
    subst E c.in-Err-Is.field-0-is (c.in-Err-Is.ensures b0 b1 k h)
