use Rattle.std.proofs.Common.{ℕ, Option, sym, ◌∙◌, ap, subst}
use Rattle.xt_rows.specs.RowLaws.{IsRegister}
use Rattle.xt_rows.proofs.Registers.{reads_registers}
use Rattle.xt_frames.specs.KeptFrameState.{state_at}
use Rattle.xt_uses.specs.UseState.{visible_word}
use Rattle.xt_uses.specs.UseParts.{mask_of, use_at}
use Rattle.xt_uses.proofs.UseMasks.{special_word_is}
use Rattle.xt_uses.proofs.masks.TopMasks.operands.Goals as goal

pub word-requires : goal.word-requires
word-requires c =
    let P : Option ℕ × Option ℕ → Type 0 = λ r. IsRegister r.0 in
    subst P (sym c.reads-first.ensures) (reads_registers c.args.i c.requires).0

pub word-requires-2 : goal.word-requires-2
word-requires-2 c =
    let P : Option ℕ × Option ℕ → Type 0 = λ r. IsRegister r.1 in
    subst P (sym c.reads-first.ensures) (reads_registers c.args.i c.requires).1

pub returns-clause-first : goal.returns-clause-first
returns-clause-first c = λ frames kept v.
    let h = c.args.holes.now in
    c.word.ensures frames kept h v c.is_some-nested.ensures
    ∙ ap (λ (r : Option ℕ × Option ℕ). visible_word (use_at frames kept h v c.args.self.now) (state_at frames h c.args.view.now) r.0) c.reads-first.ensures

pub returns-clause-second : goal.returns-clause-second
returns-clause-second c = λ frames kept v.
    let h = c.args.holes.now in
    c.word-2.ensures frames kept h v c.is_some-nested.ensures
    ∙ ap (λ (r : Option ℕ × Option ℕ). visible_word (use_at frames kept h v c.args.self.now) (state_at frames h c.args.view.now) r.1) c.reads-first.ensures

pub returns-clause-special : goal.returns-clause-special
returns-clause-special c = λ frames kept v.
    let h = c.args.holes.now in
    let s = use_at frames kept h v c.args.self.now in
    let f = state_at frames h c.args.view.now in
    special_word_is s f _ _ _ c.special_read.ensures.value (c.special_mask.ensures kept ∙ ap (λ (r : Option ℕ × Option ℕ). mask_of s.masks r.0) c.special_reads-special.ensures)
