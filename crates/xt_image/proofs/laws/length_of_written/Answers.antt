use Rattle.xt_image.proofs.Ruled.{written_length}
use Rattle.xt_image.proofs.laws.length_of_written.Goals as goal

pub returns : goal.returns
returns c = written_length
