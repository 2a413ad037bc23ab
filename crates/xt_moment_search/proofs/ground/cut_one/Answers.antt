use Rattle.std.proofs.Common.{◌≡◌, ◌∙◌, ◌<◌, List, ℕ, get_or, length, refl, sym, ap, subst, slice_set, arith}
use Rattle.std.specs.Prelude.{bit_and}
use Rattle.xt_window.specs.Ring.{place}
use Rattle.xt_uses.specs.Words.{all_bits}
use Rattle.xt_uses.specs.UseLaws.{AgreeIn}
use Rattle.xt_moment_search.proofs.CutStates.{one_cut}
use Rattle.xt_moment_search.proofs.ground.cut_one.Goals as goal

pub returns-clause-cut : goal.returns-clause-cut
returns-clause-cut c =
    let w = c.args.regs.now.win in
    let xs = w.regs in
    let masks = c.args.masks.now.regs in
    let at = place w.base c.args.register in
    let long : length xs ≡ 64 = c.requires.shaped.count in
    let less : at < length xs = omega (arith, long) in
    let mask : c.mask_of-mask.result ≡ get_or masks at all_bits =
    c.mask_of-mask.ensures ∙ ap (λ (b : ℕ). get_or masks (place b c.args.register) all_bits) c.base.ensures.value in
    let is = c.write.ensures.regs ∙ (λ i. slice_set xs at (bit_and (c.read.ensures i) (mask i))) in
    record {
      regs = λ k. subst (λ (l : List ℕ). AgreeIn (get_or masks k all_bits) (get_or xs k 0) (get_or l k 0)) (sym is) (one_cut masks xs at k less);
      base = sym c.write.ensures.base;
      start = sym c.write.ensures.start;
      control = refl;
    }
