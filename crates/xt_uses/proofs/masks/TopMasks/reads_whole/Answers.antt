use Rattle.std.proofs.Common.{◌≡◌, ℕ, Option, sym, ◌∙◌, ap, subst}
use Rattle.std.proofs.lemmas.Bool.{eqb-true}
use Rattle.xt_rows.specs.RowLaws.{IsRegister}
use Rattle.xt_rows.proofs.Registers.{reads_registers}
use Rattle.xt_uses.specs.Words.{all_bits}
use Rattle.xt_uses.specs.UseState.{special_word, visible_word}
use Rattle.xt_uses.specs.UseParts.{use_at}
use Rattle.xt_uses.proofs.UseMasks.{special_mask_is}
use Rattle.xt_uses.proofs.masks.TopMasks.reads_whole.Goals as goal

pub is_whole-requires : goal.is_whole-requires
is_whole-requires c =
    let P : Option ℕ × Option ℕ → Type 0 = λ r. IsRegister r.0 in
    subst P (sym c.reads-first.ensures) (reads_registers c.args.i c.requires).0

pub is_whole-requires-else-not-is_whole : goal.is_whole-requires-else-not-is_whole
is_whole-requires-else-not-is_whole c =
    let P : Option ℕ × Option ℕ → Type 0 = λ r. IsRegister r.1 in
    subst P (sym c.reads-first.ensures) (reads_registers c.args.i c.requires).1

pub returns : goal.returns
returns c = λ all frames kept h v f none.
    let s = use_at frames kept h v c.args.self.now in
    let V : Option ℕ → ℕ = λ o. (visible_word s f o).mask in
    let mask : c.special_mask.result ≡ all_bits = eqb-true c.special_mask.result all_bits all in
    record {
      first = ap (λ (r : Option ℕ × Option ℕ). V r.0) (sym c.reads-first.ensures) ∙ c.is_whole.ensures c.if-not-is_whole.false frames kept h v f none;
      second = ap (λ (r : Option ℕ × Option ℕ). V r.1) (sym c.reads-first.ensures) ∙ c.is_whole-else-not-is_whole.ensures c.if-not-is_whole-2.false frames kept h v f none;
      special = ap (λ (r : Option ℕ × Option ℕ). (special_word s f r.0).mask) (sym c.special_reads-special.ensures) ∙ (special_mask_is s f c.special_reads-special.result.0 ∙ (sym (c.special_mask.ensures kept) ∙ mask));
    }
