use Rattle.xt_names.proofs.Encoding.{one_encoding}
use Rattle.xt_names.proofs.mnemonic_laws.instructions_have_one_encoding.Goals as goal

pub returns : goal.returns
returns c = one_encoding
