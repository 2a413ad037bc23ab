-- Carries a proof; nothing that a reader must believe.
-- What a function returned, beside what reading gives.
use Rattle.std.specs.Prelude.{◌≡◌, ℕ, Result, Ok, Err}
use Rattle.xt_parse.specs.declared.stop.Stop.{Stop}
use Rattle.xt_parse.specs.declared.stop.Stop.TheVariants as stop

-- a stop is where reading stops, unless memory ran out
abbrev pub Stops : {Y : Type 0} → Stop → Result Y ℕ → Type 0
Stops (stop.At left) read = read ≡ Err left
Stops stop.Memory read = Unit {0}

-- what was returned, seen by view, is what is read
abbrev pub Gives : {X Y : Type 0} → (X → Y) → Result X Stop → Result Y ℕ → Type 0
Gives view (Ok x) read = read ≡ Ok (view x)
Gives view (Err e) read = Stops e read
