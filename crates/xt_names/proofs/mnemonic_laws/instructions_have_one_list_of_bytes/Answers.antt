use Rattle.xt_names.proofs.EncodingBytes.{one_list}
use Rattle.xt_names.proofs.mnemonic_laws.instructions_have_one_list_of_bytes.Goals as goal

pub returns : goal.returns
returns c = one_list
