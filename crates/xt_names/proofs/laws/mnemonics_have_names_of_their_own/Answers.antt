use Rattle.xt_names.proofs.Found.{found}
use Rattle.xt_names.proofs.laws.mnemonics_have_names_of_their_own.Goals as goal

pub returns : goal.returns
returns c = record { found = λ m. (found m).0; narrow = λ m. (found m).1 }
