use Rattle.std.proofs.Common.{sym, subst}
use Rattle.xt_image.specs.ImageParts.{IsWellFormed}
use Rattle.xt_gen.proofs.Standing.{generated_is_well_formed}
use Rattle.xt_gen.proofs.making.generated_image.Goals as goal

pub returns-clause-well_formed : goal.returns-clause-well_formed
returns-clause-well_formed c = subst IsWellFormed (sym c.in_ok-image.ensures) (generated_is_well_formed c.args.number)
