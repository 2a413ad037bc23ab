use Rattle.std.proofs.Common.{rules, ◌∙◌, ap, ℤ, ◌*ℤ◌, w32, of_z}
use Rattle.std.specs.Int.{int_shr}
use Rattle.xt_word.specs.Arithmetic.{mulsh}
use Rattle.xt_word.specs.Signed.{signed}
use Rattle.xt_word.proofs.Products.{high_product}
use Rattle.xt_word.proofs.multiply.mulsh.Goals as goal

pub returns : goal.returns
unfolding mulsh
returns c =
    c.cast_unsigned.ensures
    ∙ (high_product c.cast_signed.result c.cast_signed-2.result (search rules) (search rules)
    ∙ (ap (λ (z : ℤ). of_z w32 (int_shr (z *ℤ c.cast_signed-2.result) 32)) c.cast_signed.ensures
    ∙ ap (λ (z : ℤ). of_z w32 (int_shr (signed c.args.s *ℤ z) 32)) c.cast_signed-2.ensures))
