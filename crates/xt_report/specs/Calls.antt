-- A call of the program's functions: the source and the sink before it and after it ('profile').
use Rattle.std.specs.Prelude.{◌≡◌, ◌≤◌, ℕ, List, length, Option}
use Rattle.std.specs.Io.KnownBytes.{Consumes, IsAtEnd}
use Rattle.xt_io.specs.Whole.{Takes}

-- what the source and the sink tell, and their counts of faults
pub record Ends : Type 0 where
  pub left : Option (List ℕ)
  pub left_after : Option (List ℕ)
  pub told : Option (List ℕ)
  pub told_after : Option (List ℕ)
  pub source_faults : ℕ
  pub source_faults_after : ℕ
  pub sink_faults : ℕ
  pub sink_faults_after : ℕ

-- a call that found the source at the first of these values and left it at the second, and the sink
-- so too
abbrev pub ends :
    {S K : Type 0}
    → (S → Option (List ℕ)) → (S → ℕ) → S → S
    → (K → Option (List ℕ)) → (K → ℕ) → K → K
    → Ends
ends left source_faults source source_after told sink_faults sink sink_after = record {
  left = left source;
  left_after = left source_after;
  told = told sink;
  told_after = told sink_after;
  source_faults = source_faults source;
  source_faults_after = source_faults source_after;
  sink_faults = sink_faults sink;
  sink_faults_after = sink_faults sink_after;
}

-- the input was read to its end, is within the limit, and this is so of it
pub record ReadsWhole (limit : ℕ) (e : Ends) (P : List ℕ → Type 0) : Type 0 where
  pub input : List ℕ
  pub taken : Consumes e.left e.left_after input
  pub end : IsAtEnd e.left_after
  pub within : length input ≤ limit
  pub is : P input

-- no more bytes were taken than the limit
abbrev pub TakesWithin : ℕ → Ends → Type 0
TakesWithin limit e = Takes e.left e.left_after (λ n. n ≤ limit)

-- neither the source nor the sink was touched
pub record IsUntouched (e : Ends) : Type 0 where
  pub left : e.left_after ≡ e.left
  pub told : e.told_after ≡ e.told
  pub source : e.source_faults_after ≡ e.source_faults
  pub sink : e.sink_faults_after ≡ e.sink_faults
