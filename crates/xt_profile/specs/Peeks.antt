-- Carries a proof; nothing that a reader must believe.
-- The next record of a list, as it is seen before it is taken.
use Rattle.std.specs.Prelude.{ℕ, Option, Some, None, List, [], ◌∷◌}
use Rattle.xt_trace.specs.declared.record.StepKind.{StepKind}
use Rattle.xt_trace.specs.declared.record.StepRecord.{StepRecord}

abbrev pub with_held : Option StepRecord → List StepRecord → List StepRecord
with_held None rest = rest
with_held (Some x) rest = x ∷ rest

-- its PC and its kind
abbrev pub pc_and_kind : List StepRecord → Option (ℕ × StepKind)
pc_and_kind [] = None
pc_and_kind (x ∷ xs) = Some (x.pc, x.kind)
