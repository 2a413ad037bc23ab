-- Walking a list of cores with the records of both: each number is one turn, and its record is the
-- next of that core's ('profile').
use Rattle.std.specs.Prelude.{◌≡◌, ℕ, zero, suc, ◌<◌, List, [], ◌∷◌, take}
use Rattle.xt_trace.specs.declared.record.StepRecord.{StepRecord}
use Rattle.xt_trace.specs.Chip.{Chip}
use Rattle.xt_trace.specs.Worlds.{Core, Line, World, give, advance, answer}
use Rattle.xt_trace.specs.Runs.{Opening, world_at_start}

-- the record of a core's next turn
abbrev pub next_record : {S : Type 0} (P : Chip S) → Core S → Line → StepRecord
next_record P k b = (P.turn k.state (answer (P.demand k.state) b.memory)).0

abbrev pub IsWalk :
    {S : Type 0} (P : Chip S) → List ℕ → World S → List StepRecord → List StepRecord → Type 0
IsWalk P [] w xs ys = (xs ≡ []) × (ys ≡ [])
IsWalk P (zero ∷ cs) w xs ys =
    (rest : List StepRecord) × (xs ≡ next_record P w.core0 w.line ∷ rest) × (0 < w.core0.left)
    × IsWalk P cs (give P 0 w) rest ys
IsWalk P (suc c ∷ cs) w xs ys =
    (rest : List StepRecord) × (ys ≡ next_record P w.core1 w.line ∷ rest) × (0 < w.core1.left)
    × IsWalk P cs (give P 1 w) xs rest

-- the state of both cores and of the bus after the first p steps of a list
abbrev pub state_at : {S : Type 0} (P : Chip S) → Opening S → List ℕ → ℕ → World S
state_at P o list p = advance P (take p list) (world_at_start o)
