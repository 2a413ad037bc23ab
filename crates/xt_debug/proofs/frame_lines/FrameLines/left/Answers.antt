use Rattle.std.proofs.Common.{length, sym, ap, ◌∙◌}
use Rattle.xt_events.specs.Lines.{lines_in}
use Rattle.xt_debug.proofs.FrameNoting.{noted_long}
use Rattle.xt_debug.proofs.frame_lines.FrameLines.left.Goals as goal

pub returns : goal.returns
returns c =
    let t = c.self.inside in
    c.left.ensures ∙ (sym (noted_long t.walk.image t.walk.run t.walk.position (lines_in t.lines)) ∙ ap length c.self.view_is)
