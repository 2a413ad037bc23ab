use Rattle.xt_disasm.proofs.ReadBack.{read_back}
use Rattle.xt_disasm.proofs.laws.texts_are_read_back.Goals as goal

pub returns : goal.returns
returns c = read_back
