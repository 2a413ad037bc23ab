use Rattle.xt_exec.proofs.Tied.{returns_undo_entries}
use Rattle.xt_exec.proofs.laws.returns_undo_entries.Goals as goal

pub returns : goal.returns
returns c = returns_undo_entries
