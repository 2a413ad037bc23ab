use Rattle.std.proofs.Common.{◌∙◌}
use Rattle.xt_shadow.specs.declared.walk.ShadowWalk.{ShadowWalk}
use Rattle.xt_shadow.proofs.Opened.{walk_opened}
use Rattle.xt_shadow.proofs.walk.ShadowWalk.open.Goals as goal

pub returns : goal.returns
returns c =
    let w : ShadowWalk = record { code = c.in_ok-code.code; side0 = c.in_ok-side0.side0; side1 = c.in_ok-side1.side1; marks = c.in_ok-marks.marks } in
    let m = c.in_ok-marks.ensures in
    walk_opened c.args.image.now c.args.run.now w c.requires.run (c.in_ok-code.ensures ∙ (c.in_ok-constants.ensures ∙ c.as_slice.ensures)) c.in_ok-side0.ensures c.in_ok-side1.ensures m.len m.marks
