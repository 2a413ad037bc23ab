use Rattle.std.proofs.Common.{◌≡◌, ◌-◌, ap, ◌∙◌, sym, arith, length}
use Rattle.xt_frames.specs.Walked.{sp_in}
use Rattle.xt_frames.specs.KeptFrameState.{frames_of}
use Rattle.xt_frames.proofs.Newest.{nobody, sp_in-newest, sp_of_caller, caller_moves}
use Rattle.xt_frames.proofs.callers.sp_in.Goals as goal

pub sp_of-requires : goal.sp_of-requires
sp_of-requires c =
    let place = c.requires.place in
    (caller_moves c.args.callers.now c.args.j nobody c.requires.frames (omega (arith, place, c.if-j-callers.false))).0

pub returns-then-j-callers : goal.returns-then-j-callers
returns-then-j-callers c =
    let e : length c.args.callers.now - c.args.j ≡ 0 = omega (arith, c.if-j-callers.true) in
    sym (ap (sp_in (frames_of c.args.callers.now) c.args.sp) e ∙ sp_in-newest (frames_of c.args.callers.now) c.args.sp)

pub returns-else-j-callers : goal.returns-else-j-callers
returns-else-j-callers c =
    let place = c.requires.place in
    c.sp_of.ensures ∙ sym (sp_of_caller c.args.callers.now c.args.sp c.args.j nobody (omega (arith, place, c.if-j-callers.false)))
