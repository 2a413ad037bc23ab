-- What one core's turns come to, whoever answers them ('profile').
use Rattle.std.specs.Prelude.{◌≡◌, ℕ, List, ◌++◌, map}
use Rattle.xt_map.specs.declared.access.Access.{Access}
use Rattle.xt_trace.specs.Chip.{Chip}
use Rattle.xt_trace.specs.Calls.{calls_in}
use Rattle.xt_trace.specs.Worlds.{Core, finished_core}

abbrev pub replies_in : List (Access × ℕ) → List ℕ
replies_in cs = map (λ (p : Access × ℕ). p.1) cs

-- The core came from one state to the other by turns that made these calls with these
-- replies: they are the calls of the records, and the core has the same end as before,
-- whatever replies come after these.
pub record Drove {S : Type 0}
    (P : Chip S) (from to : Core S) (made : List (Access × ℕ)) : Type 0 where
  pub calls : calls_in to.records ≡ calls_in from.records ++ made
  pub trace : (future : List ℕ) → finished_core P to future
      ≡ finished_core P from (replies_in made ++ future)
