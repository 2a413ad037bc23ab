use Rattle.std.proofs.Common.{refl}
use Rattle.xt_discipline.specs.declared.walk.Walk.{Walk}
use Rattle.xt_discipline.proofs.Openings.{opens}
use Rattle.xt_discipline.proofs.walk.Walk.open.Goals as goal

pub returns : goal.returns
returns c =
    let w : Walk = record { code = c.args.code; side0 = c.in_ok-side0.side0; side1 = c.in_ok-side1.side1; marks = c.in_ok-marks.marks } in
    let m = c.in_ok-marks.ensures in
    opens w c.args.code c.args.entry c.args.options.now c.requires refl c.in_ok-side0.ensures c.in_ok-side1.ensures m.len m.marks
