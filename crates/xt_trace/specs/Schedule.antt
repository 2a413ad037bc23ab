-- The schedule of a run, over the cores of its history and the counts and places
-- of its traces ('profile').
--
-- Profile: the schedule of a run is read from its history: the turns of a core stand as late as its
-- next access allows. Between two accesses a core touches nothing that the other sees, so the order
-- of such turns tells nothing.
use Rattle.std.specs.Prelude.{ℕ, zero, suc, ◌-◌, Option, Some, None, List, [], ◌∷◌, ◌++◌, map}
use Rattle.std.specs.Prelude.{replicate}
use Rattle.xt_map.specs.declared.access.Access.{Access}
use Rattle.xt_map.specs.declared.access.Entry.{Entry}
use Rattle.xt_trace.specs.declared.record.StepRecord.{StepRecord}
use Rattle.xt_trace.specs.declared.run.Run.{Run}

-- the numbers of the records with an access, where the first record has this number
abbrev pub place_before : Option Access → ℕ → List ℕ → List ℕ
place_before None i ps = ps
place_before (Some a) i ps = i ∷ ps

abbrev pub places_from : ℕ → List StepRecord → List ℕ
places_from i [] = []
places_from i (x ∷ xs) = place_before x.access i (places_from (suc i) xs)

-- the cores of a history's entries, in order
abbrev pub cores_of : List Entry → List ℕ
cores_of es = map (λ (e : Entry). e.core) es

-- Core 0 has made i of its n steps, and its next accesses are at ps; core 1 has made j
-- of m, and its are at qs.
abbrev pub schedule_from : List ℕ → ℕ → List ℕ → ℕ → ℕ → List ℕ → ℕ → List ℕ
schedule_from [] i ps n j qs m = replicate (n - i) 0 ++ replicate (m - j) 1
schedule_from (zero ∷ cs) i [] n j qs m = []
schedule_from (zero ∷ cs) i (p ∷ ps) n j qs m =
    replicate (suc p - i) 0 ++ schedule_from cs (suc p) ps n j qs m
schedule_from (suc c ∷ cs) i ps n j [] m = []
schedule_from (suc c ∷ cs) i ps n j (q ∷ qs) m =
    replicate (suc q - j) 1 ++ schedule_from cs i ps n (suc q) qs m

abbrev pub schedule : List ℕ → List ℕ → ℕ → List ℕ → ℕ → List ℕ
schedule cores places0 count0 places1 count1 = schedule_from cores 0 places0 count0 0 places1 count1

-- The schedule of a run: for each entry of the history in order, the turns of its core after its
-- previous access, up to and with this one; then the rest of core 0's turns, and then the rest of
-- core 1's.
abbrev pub schedule_in : Run → List ℕ
schedule_in r =
    schedule (cores_of r.history) r.trace0.places r.trace0.count r.trace1.places r.trace1.count
