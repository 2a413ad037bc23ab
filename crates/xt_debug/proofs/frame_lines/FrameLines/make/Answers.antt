use Rattle.std.proofs.Common.{ap, ◌∙◌, subst}
use Rattle.xt_replay.specs.Shown.{ReplayState}
use Rattle.xt_events.specs.Lines.{lines_in}
use Rattle.xt_debug.specs.FrameNotes.{noted}
use Rattle.xt_debug.specs.FrameWalks.{Skips}
use Rattle.xt_debug.proofs.FrameNoting.{noted_skipped}
use Rattle.xt_debug.proofs.frame_lines.FrameLines.make.Goals as goal

pub returns : goal.returns
returns c =
    let image = c.args.image.now in
    let r = c.args.run.now in
    let S : ReplayState → Type 0 = λ s. Skips c.args.from s c.skip.new.self in
    noted_skipped image r c.args.from c.skip.new.self (lines_in c.in_ok-lines.lines) (subst S c.in_ok-walk.ensures c.skip.ensures)
    ∙ ap (noted image r c.args.from) c.in_ok-lines.ensures
