use Rattle.std.proofs.Common.{rules, subst, sym, List, ℕ}
use Rattle.std.specs.Prelude.{slice_set}
use Rattle.xt_special.specs.Shape.{HasShape}
use Rattle.xt_special.proofs.Shapes.{opening_shape}
use Rattle.xt_special.proofs.registers.Special.new.Goals as goal

pub invariant_of-result : goal.invariant_of-result
invariant_of-result c =
    (search rules, subst (λ (file : List ℕ). HasShape (slice_set (slice_set file 235 c.args.prid) 231 c.args.vecbase)) (sym c.no_registers-file.ensures) (opening_shape c.args.prid c.args.vecbase c.requires))
