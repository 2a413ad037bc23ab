use Rattle.std.proofs.Common.{◌∙◌, ap}
use Rattle.std.proofs.Math.ListN.{set}
use Rattle.xt_special.specs.Numbers as number
use Rattle.xt_special.specs.Values.{Specials, control_at}
use Rattle.xt_frames.specs.KeptFrameState.{Upper}
use Rattle.xt_frames.proofs.Laying.{covered_by, uncovered}
use Rattle.xt_frames.proofs.view.FrameRegisters.uncover.Goals as goal

pub returns : goal.returns
returns c = λ old inp frames h covered over.
    let i = c.self.inside in
    let k = c.args.covered in
    let V : Specials → Upper = λ s. record { seen = i.seen; control = control_at i.pc i.waits s } in
    let O : Specials → Specials = λ s. record s { ps = record s.ps { owb = k.owb } } in
    let I : Specials → Specials = λ s. record s { file = set s.file number.interrupt k.interrupt } in
    ap V (c.set_owb.ensures ∙ ap O (c.set_register-2.ensures ∙ ap I c.set_register.ensures))
    ∙ (ap (λ (v : Upper). covered_by v k) c.self.view_is
    ∙ (ap (covered_by c.args.self.now) covered
    ∙ uncovered old c.args.self.now inp frames h over))
