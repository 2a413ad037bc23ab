use Rattle.std.proofs.Common.{sym, ap, ◌∙◌}
use Rattle.xt_uses.specs.Words.{below_unknown}
use Rattle.xt_uses.proofs.Sums.{below_whole}
use Rattle.xt_uses.proofs.words.below_unknown.Goals as goal

pub returns-then-mask-eq-ALL_BITS : goal.returns-then-mask-eq-ALL_BITS
returns-then-mask-eq-ALL_BITS c = let e = c.if-mask-eq-ALL_BITS.true in e ∙ sym below_whole ∙ ap (λ n. below_unknown n) (sym e)
