-- For sources and sinks in memory, which tests use; nothing that a reader must believe.
-- Which calls of a source or a sink in memory fail, and how they are counted ('profile').
use Rattle.std.specs.Prelude.{◌≡◌, ◌==◌, ℕ, Bool, List}
use Rattle.std.specs.List.{list_any}
use Rattle.xt_io.specs.Causes.{one_more, count_after}
use Rattle.xt_io.specs.declared.calls.Calls.{Calls}

-- the most bytes that one call moves
abbrev pub most_of : Calls → ℕ
most_of calls = calls.most

-- whether the number of the next call is one of those that are to fail
abbrev pub fails_next : Calls → Bool
fails_next calls = list_any (λ number. number == calls.made) calls.fails.items

-- no call was made yet, each is to move at most so many bytes, and those of
-- these numbers are to fail
pub record IsUnused (limit : ℕ) (numbers : List ℕ) (calls : Calls) : Type 0 where
  pub most : calls.most ≡ limit
  pub fails : calls.fails.items ≡ numbers
  pub made : calls.made ≡ 0
  pub failed : calls.failed ≡ 0

-- one more call was made, and counted as failed where it was to fail
pub record CountsCall (old new : Calls) : Type 0 where
  pub most : new.most ≡ old.most
  pub fails : new.fails.items ≡ old.fails.items
  pub made : new.made ≡ one_more old.made
  pub failed : new.failed ≡ count_after old.failed (fails_next old)
