use Rattle.std.proofs.Common.{◌≡◌, length}
use Rattle.xt_discipline.specs.ByteMarks.{IsChanged}
use Rattle.xt_discipline.proofs.bytes.change_bytes.Given as goal

abbrev pub invariant-loop-k : goal.invariant-loop-k
invariant-loop-k l = (length l.marks ≡ length l.initial.marks) × IsChanged l.change l.from l.k l.initial.marks l.marks
