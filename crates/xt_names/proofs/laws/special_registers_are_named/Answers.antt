use Rattle.std.proofs.Common.{refl}
use Rattle.xt_names.specs.Specials.{exchanged_names}
use Rattle.xt_names.proofs.Specials.{all_named}
use Rattle.xt_names.proofs.laws.special_registers_are_named.Goals as goal

pub returns-clause-named : goal.returns-clause-named
returns-clause-named c = all_named

pub returns-clause-listed : goal.returns-clause-listed
unfolding exchanged_names
returns-clause-listed c = refl
