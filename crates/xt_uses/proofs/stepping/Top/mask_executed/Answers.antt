use Rattle.std.specs.Prelude.{is_some}
use Rattle.std.proofs.Common.{ℕ, Bool, sym, ◌∙◌, ap}
use Rattle.xt_rows.specs.Kinds.{moved_to}
use Rattle.xt_frames.specs.KeptFrameState.{state_at}
use Rattle.xt_uses.specs.Words.{Word}
use Rattle.xt_uses.specs.Known.{result_mask}
use Rattle.xt_uses.specs.UseState.{ValidityBits, first_word, second_word, special_operand}
use Rattle.xt_uses.specs.UseStep.{frames_moved, pointer_written, special_written, visible_written}
use Rattle.xt_uses.specs.UseParts.{masks_at, use_at}
use Rattle.xt_uses.proofs.UseSteps.{visible_same}
use Rattle.xt_uses.proofs.stepping.Top.mask_executed.Goals as goal

pub returns-clause-mask : goal.returns-clause-mask
returns-clause-mask c = λ frames kept v u.
    let top = c.args.self.now in
    let i = c.args.i in
    let s = use_at frames kept top.holes v top.masks in
    let f = state_at frames top.holes c.args.made.now.before in
    let o = c.operands-operands.ensures in
    let w = c.operands-operands.result in
    let M : Word → Word → Word → ℕ = λ x y z. result_mask top.masks.discipline i x y z top.masks.threadptr c.args.reply in
    c.result_mask-mask.ensures
    ∙ (ap (λ (x : Word). M x w.y w.u) (o.first frames kept v)
    ∙ (ap (λ (y : Word). M (first_word i s f) y w.u) (o.second frames kept v)
    ∙ ap (λ (z : Word). M (first_word i s f) (second_word i s f) z) (o.special frames kept v)))

pub returns-clause-stored : goal.returns-clause-stored
returns-clause-stored c = λ frames kept v u. ap (λ (w : Word). w.mask) (c.operands-operands.ensures.second frames kept v)

pub returns-clause-masks : goal.returns-clause-masks
returns-clause-masks c = λ frames kept v u newest same.
    let top = c.args.self.now in
    let i = c.args.i in
    let h = top.holes in
    let made = c.args.made.now in
    let s = use_at frames kept h v top.masks in
    let f = state_at frames h made.before in
    let o = c.operands-operands.ensures in
    let w = c.operands-operands.result in
    let m = c.result_mask-mask.result in
    let V : Bool → ℕ → ℕ → ℕ → ValidityBits = λ n k g b. visible_written n made.step.write k (pointer_written i g (special_written (moved_to i) g (frames_moved i b (masks_at kept top.masks)))) in
    let mask = returns-clause-mask c frames kept v u in
    let given = ap (λ (x : Word). x.mask) (o.first frames kept v) in
    c.pass-keep.ensures.masks kept newest
    ∙ (ap (λ (n : Bool). V n m w.x.mask c.callinc.result) c.is_some.ensures
    ∙ (ap (λ (k : ℕ). V (is_some h.nested) k w.x.mask c.callinc.result) mask
    ∙ (ap (λ (g : ℕ). V (is_some h.nested) (result_mask top.masks.discipline i (first_word i s f) (second_word i s f) (special_operand i s f) top.masks.threadptr c.args.reply) g c.callinc.result) given
    ∙ (ap (λ (b : ℕ). V (is_some h.nested) (result_mask top.masks.discipline i (first_word i s f) (second_word i s f) (special_operand i s f) top.masks.threadptr c.args.reply) (first_word i s f).mask b) c.callinc.ensures.value
    ∙ visible_same (is_some h.nested) made.step.write u.write _ _ (sym same)))))
