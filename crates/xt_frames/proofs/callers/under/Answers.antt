use Rattle.std.proofs.Common.{◌≡◌, ◌-◌, suc, ap, ◌∙◌, sym, arith, length}
use Rattle.xt_frames.specs.SaveAreas.{before}
use Rattle.xt_frames.proofs.Newest.{nobody, frames_last, frames_none, caller_moves}
use Rattle.xt_frames.proofs.callers.under.Goals as goal

pub sp_of-requires : goal.sp_of-requires
sp_of-requires c = (caller_moves c.args.callers.now (length c.args.callers.now - 1) nobody c.requires (omega arith)).0

pub returns-then-depth-eq0 : goal.returns-then-depth-eq0
returns-then-depth-eq0 c = sym (ap (before c.args.hi) (frames_none c.args.callers.now c.if-depth-eq0.true))

pub returns-else-depth-eq0 : goal.returns-else-depth-eq0
returns-else-depth-eq0 c =
    let h : length c.args.callers.now ≡ suc (length c.args.callers.now - 1) = omega arith in
    c.sp_of.ensures ∙ sym (ap (before c.args.hi) (frames_last c.args.callers.now (length c.args.callers.now - 1) nobody h))
