use Rattle.std.proofs.Common.{◌≡◌, ◌-◌, ap, ◌∙◌, sym, arith, length}
use Rattle.xt_frames.specs.Backtrace.{a0_in}
use Rattle.xt_frames.specs.KeptFrameState.{frames_of}
use Rattle.xt_frames.proofs.Newest.{nobody, a0_in-newest, a0_of_caller}
use Rattle.xt_frames.proofs.callers.a0_in.Goals as goal

pub returns-then-j-callers : goal.returns-then-j-callers
returns-then-j-callers c =
    let e : length c.args.callers.now - c.args.j ≡ 0 = omega (arith, c.if-j-callers.true) in
    sym (ap (a0_in (frames_of c.args.callers.now) c.args.a0) e ∙ a0_in-newest (frames_of c.args.callers.now) c.args.a0)

pub returns-else-j-callers : goal.returns-else-j-callers
returns-else-j-callers c =
    let place = c.requires.place in
    sym (a0_of_caller c.args.callers.now c.args.a0 c.args.j nobody c.requires.frames (omega (arith, place, c.if-j-callers.false)))
