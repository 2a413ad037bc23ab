use Rattle.std.proofs.Common.{rules, ◌∙◌, ap, ℤ, ◌*ℤ◌, w32, of_z}
use Rattle.xt_word.specs.Arithmetic.{mul16s}
use Rattle.xt_word.specs.Signed.{signed_half}
use Rattle.xt_word.proofs.Products.{half_product}
use Rattle.xt_word.proofs.multiply.mul16s.Goals as goal

pub returns : goal.returns
unfolding mul16s
returns c =
    c.cast_unsigned.ensures
    ∙ (half_product c.cast_signed-s.result c.cast_signed-t.result (search rules) (search rules)
    ∙ (ap (λ (z : ℤ). of_z w32 (z *ℤ c.cast_signed-t.result)) c.cast_signed-s.ensures
    ∙ ap (λ (z : ℤ). of_z w32 (signed_half c.args.s *ℤ z)) c.cast_signed-t.ensures))
