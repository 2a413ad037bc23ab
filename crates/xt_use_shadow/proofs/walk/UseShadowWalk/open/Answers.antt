use Rattle.std.proofs.Common.{None, ◌∙◌}
use Rattle.xt_use_shadow.specs.declared.walk.UseShadowWalk.{UseShadowWalk}
use Rattle.xt_use_shadow.proofs.Opened.{walk_opened}
use Rattle.xt_use_shadow.proofs.walk.UseShadowWalk.open.Goals as goal

pub returns : goal.returns
returns c =
    let w : UseShadowWalk = record { code = c.in_ok-code.code; side0 = c.in_ok-side0.side0; side1 = c.in_ok-side1.side1; bytes = c.in_ok-bytes.bytes; first = None } in
    walk_opened c.args.discipline c.args.image.now c.args.run.now c.args.may_step w c.requires.run (c.in_ok-code.ensures ∙ (c.in_ok-constants.ensures ∙ c.as_slice.ensures)) c.in_ok-side0.ensures c.in_ok-side1.ensures c.in_ok-bytes.ensures
