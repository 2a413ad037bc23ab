use Rattle.std.proofs.Common.{refl, ◌∙◌}
use Rattle.xt_discipline.proofs.Marks.{one_more, none_changed}
use Rattle.xt_discipline.proofs.bytes.change_bytes.Goals as goal

pub loop-k-init : goal.loop-k-init
loop-k-init c = (refl, none_changed c.args.change c.args.from c.args.marks.now)

pub loop-k-preserved : goal.loop-k-preserved
loop-k-preserved c =
    let i = c.loop-k.invariant in
    let e = c.change_byte.ensures in
    (e.len ∙ i.0, one_more c.args.change c.args.from c.loop-k.k c.args.marks.now c.loop-k.marks c.change_byte.new.marks i.0 i.1 e.bytes)
