use Rattle.std.proofs.Common.{List, [], Option, ◌∙◌, ap, subst}
use Rattle.xt_trace.specs.declared.record.RegWrite.{RegWrite}
use Rattle.xt_map.specs.Memory.{constant_byte}
use Rattle.xt_frames.specs.Frames.{Frame}
use Rattle.xt_frames.specs.Breaches.{inputs_of}
use Rattle.xt_frames.specs.KeptFrameState.{state_at}
use Rattle.xt_frames.specs.Quick.{IsQuickOr}
use Rattle.xt_frames.proofs.view.FrameRegisters.quick.Goals as goal

pub returns-in-None-clause-other : goal.returns-in-None-clause-other
returns-in-None-clause-other c = λ none.
    let h = c.args.holes.now in
    let frames : List Frame = [] in
    let P : Option (Option RegWrite) → Type 0 = λ o. IsQuickOr o c.args.limits c.args.fresh (constant_byte c.args.code.now) c.args.rec.now h c.lay.new.self c.laid_quick.new.self in
    let same = subst P c.in-None.is c.laid_quick.ensures in
    c.uncover.ensures c.args.self.now (inputs_of c.args.rec.now) frames h c.covered-covered.ensures.value (ap (state_at frames h) same ∙ c.lay.ensures frames h)

pub returns-in-Some-clause-quick : goal.returns-in-Some-clause-quick
returns-in-Some-clause-quick c = λ write made.
    let h = c.args.holes.now in
    let P : Option (Option RegWrite) → Type 0 = λ o. IsQuickOr o c.args.limits c.args.fresh (constant_byte c.args.code.now) c.args.rec.now h c.lay.new.self c.laid_quick.new.self in
    (c.lay.new.self, (λ frames. c.lay.ensures frames h), subst P (c.in-Some.is ∙ made) c.laid_quick.ensures)
