-- The first of a list of records, and the rest of it ('profile').
use Rattle.std.specs.Prelude.{List, [], ◌∷◌, Option, Some, None}
use Rattle.xt_trace.specs.declared.record.StepRecord.{StepRecord}

abbrev pub first_of : List StepRecord → Option StepRecord
first_of [] = None
first_of (r ∷ rest) = Some r

abbrev pub rest_of : List StepRecord → List StepRecord
rest_of [] = []
rest_of (r ∷ rest) = rest
