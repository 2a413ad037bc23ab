use Rattle.std.proofs.Common.{◌≡◌, ◌||◌, Bool, false, not, sym, ◌∙◌, ap}
use Rattle.std.proofs.lemmas.Bool.{or_left, or_right}
use Rattle.xt_frames.specs.KeptFrameState.{state_at}
use Rattle.xt_uses.specs.Words.{Word}
use Rattle.xt_uses.specs.Used.{used_are_known}
use Rattle.xt_uses.specs.UseState.{first_word, second_word}
use Rattle.xt_uses.specs.UseBreaches.{reads_mark, reads_no_number}
use Rattle.xt_uses.specs.UseParts.{use_at}
use Rattle.xt_uses.proofs.testing.uses_unknown.Goals as goal

pub returns-then-reads_mark : goal.returns-then-reads_mark
returns-then-reads_mark c = λ frames kept v. sym (or_left _ _ (sym c.reads_mark.ensures ∙ c.if-reads_mark.true))

pub returns-then-reads_no_number : goal.returns-then-reads_no_number
returns-then-reads_no_number c = λ frames kept v.
    sym (or_right _ _ (or_left _ _ (sym (c.reads_no_number.ensures frames c.args.view.now) ∙ c.if-reads_no_number.true)))

pub returns : goal.returns
returns c = λ frames kept v.
    let i = c.args.i in
    let h = c.args.holes.now in
    let s = use_at frames kept h v c.args.masks.now in
    let f = state_at frames h c.args.view.now in
    let o = c.operands-operands.ensures in
    let w = c.operands-operands.result in
    let known = c.used_are_known.ensures
    ∙ (ap (λ (x : Word). used_are_known s.masks.discipline i x w.y) (o.first frames kept v)
    ∙ ap (λ (y : Word). used_are_known s.masks.discipline i (first_word i s f) y) (o.second frames kept v)) in
    let Z : Bool = not (used_are_known s.masks.discipline i (first_word i s f) (second_word i s f)) in
    let mark : reads_mark h.nested i ≡ false = sym c.reads_mark.ensures ∙ c.if-reads_mark.false in
    let number : reads_no_number i f ≡ false = sym (c.reads_no_number.ensures frames c.args.view.now) ∙ c.if-reads_no_number.false in
    ap not known ∙ sym (ap (λ (p : Bool). p || (reads_no_number i f || Z)) mark ∙ ap (λ (q : Bool). q || Z) number)
