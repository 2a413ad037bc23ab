use Rattle.std.proofs.Common.{◌≡◌, ◌-◌, suc, ap, arith, length}
use Rattle.xt_frames.specs.KeptFrameState.{newest_of}
use Rattle.xt_frames.proofs.Newest.{nobody, frames_last, frames_none, caller_moves}
use Rattle.xt_frames.proofs.callers.newest_of.Goals as goal

pub returns-then-depth-eq0-clause-newest : goal.returns-then-depth-eq0-clause-newest
returns-then-depth-eq0-clause-newest c = ap newest_of (frames_none c.args.callers.now c.if-depth-eq0.true)

pub returns-else-depth-eq0-clause-newest : goal.returns-else-depth-eq0-clause-newest
returns-else-depth-eq0-clause-newest c =
    let h : length c.args.callers.now ≡ suc (length c.args.callers.now - 1) = omega arith in
    ap newest_of (frames_last c.args.callers.now (length c.args.callers.now - 1) nobody h)

pub returns-else-depth-eq0-clause-small : goal.returns-else-depth-eq0-clause-small
returns-else-depth-eq0-clause-small c =
    let m = (caller_moves c.args.callers.now (length c.args.callers.now - 1) nobody c.requires (omega arith)).1 in
    omega (arith, m)
