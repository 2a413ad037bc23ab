use Rattle.std.proofs.Common.{Result, Err, refl, ap}
use Rattle.xt_map.specs.Memory.{constant_byte}
use Rattle.xt_uses.specs.declared.told.JudgeError.{JudgeError}
use Rattle.xt_use_walk.specs.declared.walk.FirstUse.{FirstUse}
use Rattle.xt_use_shadow.proofs.Saw.{sawn_breaks}
use Rattle.xt_use_shadow.proofs.seeing.see.Goals as goal

pub returns-in-Err-Breaks-clause-seen : goal.returns-in-Err-Breaks-clause-seen
returns-in-Err-Breaks-clause-seen c others masks known =
    let first : FirstUse = record { breach = c.in-Err-Breaks.breach; rec = c.args.rec; lacks = c.lacks.result } in
    let err : JudgeError → Result Unit JudgeError = λ s. Err s in
    sawn_breaks (constant_byte c.args.code.now) c.args.side.now c.look.new.side c.look.new.bytes others masks c.args.rec (err c.in-Err-Breaks.field-0) first
    (ap err c.in-Err-Breaks.field-0-is) (c.in-Err-Breaks.ensures.seen others masks known) refl c.lacks.ensures
